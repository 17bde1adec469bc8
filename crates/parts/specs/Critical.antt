-- Question 20 but for part 2, by arrays. Assumes nothing.
use Rattle.std.specs.Prelude.{◌≡◌, Bool, true, false, not, ◌&&◌, List, ◌++◌, map, ℕ, ◌-◌, ◌<◌, leb, eqb, get_or, take}
use Rattle.model.specs.Lists.{all, mem, tab, concat_map}
use Rattle.model.specs.Values.{Block}
use Rattle.model.specs.Image.{is_critical_word, block_in}
use Rattle.model.specs.Layouts.{times}
use Rattle.model.specs.Messages.{Transfer, size_all, part2, part3, part4}
use Rattle.model.specs.Arrival.{indices_right, consecutive, labels_new, critical_links}
use Rattle.columns.specs.Columns.{Kind}
use Rattle.codec.specs.Taken.{Took}
use Rattle.inbox.specs.Inbox.{FacesIn, is_hollow}
use Rattle.inbox.specs.declared.message.Tail.{Tail}
use Rattle.parts.specs.Entries.{code2, index2, index3, index4}
use Rattle.parts.specs.Indices.{indices_fit}
use Rattle.parts.specs.Numbers.{follows_at, neither_at}
use Rattle.parts.specs.Segments.{face_links}

-- no part has more entries than there are darts
abbrev pub few_entries : Tail → ℕ → Bool
few_entries l k = leb l.count2 k && leb l.count3 k && leb l.count4 k

-- the indices, numbers and blocks of the entries
abbrev pub entries_fit : List ℕ → ℕ → ℕ → ℕ → List ℕ → ℕ → List ℕ → List ℕ → ℕ → List ℕ → List ℕ → ℕ → Bool
entries_fit b k from to second c2 third numbers c3 fourth others c4 =
    indices_fit b k (take c2 second) (take c3 third) (take c4 fourth) && all (follows_at numbers) (tab (λ e. e) (c3 - 1)) && all (neither_at others from to) (tab (λ e. e) c4)

-- a transfer whose darts and entries are told
pub record Arrives (t : Transfer) (v x b z s : List ℕ) (k from to : ℕ) (l : Tail) : Type 0 where
  pub inside : FacesIn t.faces v x b z
  pub full : is_hollow t.faces ≡ false
  pub darts : k ≡ size_all t.faces
  pub from_is : from ≡ t.from
  pub to_is : to ≡ t.to
  pub past2 : ℕ
  pub past3 : ℕ
  pub past4 : ℕ
  pub part2_in : Took (times l.count2 part2) s l.part2 t.part2 past2
  pub part3_in : Took (times l.count3 part3) s l.part3 t.part3 past3
  pub part4_in : Took (times l.count4 (part4 t.faces)) s l.part4 t.part4 past4

-- 20 but for part 2
abbrev pub rest_right : Block → Transfer → Bool
rest_right b t = (indices_right t && consecutive t.part3 && all (λ k. not (eqb k.other t.from) && not (eqb k.other t.to)) t.part4) && labels_new b t

-- what a yes leaves: the entries of part 2 in arrays, and the words of the faces of parts 3 and 4; all other words are 0
pub record CriticalTold (t : Transfer) (x b z : List ℕ) (k : ℕ) (l : Tail) (codes indices kinds links : List ℕ) : Type 0 where
  pub codes_are : take l.count2 codes ≡ map code2 t.part2
  pub indices_are : take l.count2 indices ≡ map index2 t.part2
  pub starts : List ℕ
  pub starts_are : starts ≡ map index3 t.part3 ++ map index4 t.part4
  pub links_are : (serials : ℕ → ℕ) → critical_links t ≡ concat_map (face_links serials x z kinds links) starts
  pub kind_in : (q : ℕ) → q < k → mem (get_or b q 0) starts ≡ true → is_critical_word (get_or kinds q 0) ≡ true
  pub kind_out : (q : ℕ) → q < k → mem (get_or b q 0) starts ≡ false → get_or kinds q 0 ≡ 0
  pub words_right : (q : ℕ) → q < k → Kind (get_or kinds q 0) (get_or links q 0)

pub record CriticalRight (m s b z : List ℕ) (k from to : ℕ) (l : Tail) (codes indices kinds links : List ℕ) (r : Bool) : Type 0 where
  pub answer : (t : Transfer) (v x : List ℕ) → Arrives t v x b z s k from to l → r ≡ rest_right (block_in m) t
  pub told : r ≡ true → (t : Transfer) (v x : List ℕ) → Arrives t v x b z s k from to l → CriticalTold t x b z k l codes indices kinds links
