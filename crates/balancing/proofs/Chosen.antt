-- A move that next_move answers on the images of a sound mesh is a candidate of that mesh and can be made there. Assumes nothing.
use mathlib.Core.Path.{◌≡◌, sym, ◌∙◌, ap}
use mathlib.Core.Bool.{Bool, true, false, cond}
use mathlib.Core.List.{List, [], ◌∷◌, map}
use Prim.Native.Nat.{ℕ, ◌<◌}
use native.Mathlib.Omega.{arith}
use lib.ListN.{length, get_or}
use Rattle.model.specs.Lists.{keep, tab, concat, concat_map}
use Rattle.model.specs.Values.{Block, Limits}
use Rattle.model.specs.Sound.{Sound, Fit, block_at}
use Rattle.model.specs.Image.{words, image, block_in}
use Rattle.model.specs.Balance.{Oracle, picked, counts, Move, NextMove, level, blocked, move, may_give, recipients, candidates, can_move, first_or, is_level, next_of, Balance, balance_of}
use Rattle.model.specs.Calls.{served, memories, next_move}
use Rattle.laws.proofs.Members.{In, in_here, in_there, keep_in, Each, each_append}
use Rattle.laws.proofs.Tables.{place_mem}
use Rattle.laws.proofs.Tests.{by_cases}
use Rattle.theory.proofs.CallLaws.{served_value}
use Rattle.theory.proofs.MeshLaws.{memories_are, mesh_parts, images_pass}

-- THE MESH IS READ BACK from its images
module _ (lims : ℕ → Limits) (fit : Fit lims) where
  pub mesh_read : (m : List Block) → Sound lims m → map block_in (memories (concat (map (image words) m))) ≡ m
  mesh_read m sound = let r = images_pass lims fit m (mesh_parts lims m sound).blocks_sound in ap (map block_in) (memories_are (map (image words) m) r.2) ∙ r.1

  pub answered : (m : List Block) (o : Oracle) (scratch : List ℕ) (b : Balance) → Sound lims m
      → (next_move lims (concat (map (image words) m)) o scratch).answer ≡ served b → b ≡ balance_of lims o m
  unfolding next_move
  answered m o scratch b sound e = sym (ap (balance_of lims o) (sym (mesh_read m sound)) ∙ (served_value _ scratch _ scratch b e).1)

  pub next_answered : (m : List Block) (o : Oracle) (scratch : List ℕ) (b : Balance) → Sound lims m
      → (next_move lims (concat (map (image words) m)) o scratch).answer ≡ served b → b.next ≡ next_of lims o m
  unfolding balance_of
  next_answered m o scratch b sound e = ap (λ (x : Balance). x.next) (answered m o scratch b sound e)

-- CANDIDATES
pub record Candidate (o : Oracle) (m : List Block) (cs : List ℕ) (t : Move) : Type 0 where
  pub donor_below : t.donor < length cs
  pub recipient_below : t.recipient < length cs
  pub gives : may_give (get_or cs t.donor 0) (get_or cs t.recipient 0) ≡ true
  pub serial_picked : In t.serial (picked o (block_at m t.donor).darts)

block_in_list : (n b : ℕ) → In b (tab (λ b. b) n) → b < n
block_in_list n b h = let w = place_mem (λ b. b) n b h in omega (arith, w.1, w.2)

each_concat : (P : Move → Type 0) (f : ℕ → List Move) (l : List ℕ) → ((x : ℕ) → In x l → Each P (f x)) → Each P (concat_map f l)
each_concat P f [] h = tt
each_concat P f (x ∷ l) h = each_append P (f x) (concat_map f l) (h x (in_here x l)) (each_concat P f l (λ y k. h y (in_there y x l k)))

each_map : (P : Move → Type 0) (f : ℕ → Move) (l : List ℕ) → ((x : ℕ) → In x l → P (f x)) → Each P (map f l)
each_map P f [] h = tt
each_map P f (x ∷ l) h = (h x (in_here x l), each_map P f l (λ y k. h y (in_there y x l k)))

each_candidate : (o : Oracle) (m : List Block) (cs : List ℕ) → Each (Candidate o m cs) (candidates o m cs)
unfolding candidates
each_candidate o m cs =
    each_concat (Candidate o m cs) _ (tab (λ b. b) (length cs)) (λ d hd.
    each_concat (Candidate o m cs) _ (recipients cs (get_or cs d 0)) (λ r hr. let q = keep_in (λ r. may_give (get_or cs d 0) (get_or cs r 0)) (tab (λ b. b) (length cs)) r hr in
    each_map (Candidate o m cs) _ (picked o (block_at m d).darts) (λ s hs.
    record { donor_below = block_in_list (length cs) d hd; recipient_below = block_in_list (length cs) r q.0; gives = q.1; serial_picked = hs })))

-- THE FIRST THAT CAN BE MADE
same_move : (s t : Move) → ◌≡◌ {A = NextMove} (move s) (move t) → s ≡ t
same_move s t e = cc

not_a_move : (b : Bool) (t : Move) → ◌≡◌ {A = NextMove} (cond b level blocked) (move t) → ⊥
not_a_move true t e = let z : ◌≡◌ {A = ℕ} 0 1 = cc in omega arith
not_a_move false t e = let z : ◌≡◌ {A = ℕ} 0 1 = cc in omega arith

first_kept : (P : Move → Type 0) (q : Move → Bool) (b : Bool) (l : List Move) (t : Move) → Each P l → first_or (cond b level blocked) (keep q l) ≡ move t → P t × (q t ≡ true)
first_kept P q b [] t h e = absurd (not_a_move b t e)
first_kept P q b (s ∷ l) t h e = by_cases (q s)
    (λ k. let same : s ≡ t = same_move s t (rw k at e) in (rw same at h.0, rw same at k))
    (λ k. first_kept P q b l t h.1 (rw k at e))

pub chosen : (lims : ℕ → Limits) (o : Oracle) (m : List Block) (t : Move) → next_of lims o m ≡ move t → Candidate o m (counts o m) t × (can_move lims m t ≡ true)
unfolding next_of
chosen lims o m t e =
    let cs = counts o m in
    first_kept (Candidate o m cs) (can_move lims m) (is_level cs) (candidates o m cs) t (each_candidate o m cs) e
