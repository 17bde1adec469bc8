-- The memory that receive leaves is the image of the model's block. Assumes nothing.
use mathlib.Core.Path.{◌≡◌, sym, ◌∙◌, ap, subst}
use mathlib.Core.Bool.{Bool, true}
use mathlib.Core.List.{List, map}
use Prim.Native.Nat.{ℕ, ◌+◌, ◌≤◌, ◌<◌}
use native.Mathlib.Omega.{arith}
use lib.ListN.{length, get_or}
use Rattle.model.specs.Lists.{first_no, distinct, tab}
use Rattle.model.specs.Values.{Dart, Block, Limits, room}
use Rattle.model.specs.Image.{words_of, count_in, image, column, dart_in, block_in, is_image, holds_block}
use Rattle.model.specs.Messages.{Transfer, a_transfer, transfer}
use Rattle.model.specs.Links.{relink}
use Rattle.model.specs.Arrival.{new_darts, insert_all, received, transfer_links, volume_right, receive_checks}
use Rattle.laws.proofs.Members.{In}
use Rattle.laws.proofs.Tables.{length_tab, map_tab, tab_cong, place_mem, tab_distinct}
use Rattle.theory.proofs.ImageLaws.{image_is, is_image_of, image_by_size}
use Rattle.columns.specs.Columns.{Places}
use Rattle.columns.proofs.Question.{image_passed}
use Rattle.columns.proofs.Links.{places}
use Rattle.columns.proofs.ThirdLinks.{sewn_places}
use Rattle.memory.specs.declared.record.Record.{Record}
use Rattle.soundness.proofs.Fits.{fits}
use Rattle.soundness.proofs.Passed.{passed}
use Rattle.soundness.proofs.Linking.{unlinked_sound}
use Rattle.soundness.proofs.ReceiveSound.{received_is}
use Rattle.join.specs.Interleave.{interleaved_at}
use Rattle.join.specs.Interleaved.{Drafted}
use Rattle.join.proofs.InterleavedImage.{drafted, interleaved_image}
use Rattle.join.proofs.InterleavedPlaces.{interleaved_block, count_is, size_is, number_is, counter_is}
use Rattle.join.specs.Join.{JoinIndexed, Linking}
use Rattle.join.proofs.JoinedImage.{image_joined}
use Rattle.ranking.specs.Ranks.{index_at}
use Rattle.arrival.specs.Draft.{Draft, TransferTold}
use Rattle.arrival.proofs.DraftLaws.{sited, serial_of}
use Rattle.arrival.proofs.NewDarts.{all_new, dart_there}
use Rattle.arrival.proofs.Nineteen.{is_numbered, vertices_fit, each_below}
use Rattle.join.specs.Join.{Joins}

module _ {v x b z keys ranks q s : List ℕ} {from k : ℕ} {c : List ℕ} (d : Draft v x b z keys ranks q s from k c) where
  -- the draft by index
  pub indexed : JoinIndexed c x ranks k
  indexed = record {
    rank_below = d.ranked.rank_below;
    rank_apart = λ i j hi hj e. sym (d.ranked.index_rank i hi) ∙ ap (index_at keys) e ∙ d.ranked.index_rank j hj;
    index_of = λ p h. (index_at keys p, d.ranked.index_below p h, d.ranked.rank_index p h);
    serial_is = serial_of d;
    free = λ p h. (ap (λ (r : Record). r.kind) (d.drafted.rows p h), ap (λ (r : Record). r.link) (d.drafted.rows p h));
  }

  -- beside a block that holds none of its serials
  module _ (lim : Limits) (small : lim.block_darts ≤ room) (m : List ℕ) (size : length m ≡ words_of lim) (ok : holds_block m ≡ true)
      (absent : (p i : ℕ) → p < count_in m → i < k → column m 0 p ≡ get_or x i 0 → ⊥) (fit : count_in m + k ≤ lim.block_darts) where
    pub interleaves : Drafted m c (count_in m) (count_in c)
    interleaves = drafted m c ok (sited d).linked (sited d).ascends
        (λ p h. indexed.free p (omega (arith, h, d.drafted.count_is)))
        (λ p r hp hr e. let l : r < k = omega (arith, hr, d.drafted.count_is) in let i = indexed.index_of r l in absent p i.0
        hp i.1 (e ∙ ap (column c 0) (sym i.2) ∙ serial_of d i.0 i.1))
        (omega (arith, fit, small, d.drafted.count_is)) (omega (arith, fit, size, d.drafted.count_is))

    -- with the links that a transfer brings
    module _ {n : ℕ} {hollow : Bool} {t : Transfer} (told : TransferTold t v x b z s from n k hollow) (fine : transfer.ok t ≡ true)
        (yes : first_no (receive_checks lim (block_in m) (a_transfer t)) ≡ 0) (right : volume_right t ≡ true) where
      below : (i : ℕ) → i < k → get_or v i 0 < n
      below = each_below told (vertices_fit told (is_numbered told right))

      -- the places of the new darts in message order
      abbrev order : List ℕ
      order = tab (λ i. get_or ranks i 0) k

      new_are : new_darts t ≡ map (dart_in c) order
      new_are =
          all_new d t told.inside told.darts told.points below
          ∙ tab_cong _ (λ i. dart_in c (get_or ranks i 0)) k (dart_there d t told.inside told.darts told.points below)
          ∙ sym (map_tab (dart_in c) (λ i. get_or ranks i 0) k)

      order_low : (r : ℕ) → In r order → r < count_in c
      order_low r h = let i = place_mem (λ i. get_or ranks i 0) k r h in let l = d.ranked.rank_below i.0 i.1 in omega (arith, l, i.2, d.drafted.count_is)

      order_once : distinct order ≡ true
      order_once = tab_distinct (λ i. get_or ranks i 0) k indexed.rank_apart

      order_size : length order ≡ count_in c
      order_size = length_tab (λ i. get_or ranks i 0) k ∙ sym d.drafted.count_is

      abbrev all_darts : List Dart
      all_darts = insert_all (new_darts t) (block_in m).darts

      abbrev w : List ℕ
      w = interleaved_at m (count_in m) c (count_in c)

      interleaved_is : image (length m) (record { number = get_or m 0 0; counter = get_or m 1 0; darts = all_darts }) ≡ w
      interleaved_is =
          ap
          (λ (l : List Dart). image (length m)
          (record { number = get_or m 0 0; counter = get_or m 1 0; darts = insert_all l (block_in m).darts })) new_are
          ∙ interleaved_image interleaves order order_once order_size order_low

      interleaved_sound : holds_block w ≡ true
      interleaved_sound =
          let here = sym (image_by_size lim m small size) ∙ ok in
          let all : Block = record { number = get_or m 0 0; counter = get_or m 1 0; darts = all_darts } in
          let sound = unlinked_sound lim (block_in m) t small (image_is lim m here).1 (fits t fine) (passed lim (block_in m) t yes) in
          image_by_size lim w small (size_is interleaves ∙ size)
          ∙ subst (λ (l : List ℕ). is_image lim l ≡ true) interleaved_is (is_image_of lim (length m) all (omega (arith, size)) sound)

      darts_interleaved : tab (dart_in w) (count_in m + count_in c) ≡ all_darts
      darts_interleaved =
          ap (tab (dart_in w)) (sym (count_is interleaves))
          ∙ ap (λ (a : Block). a.darts) (interleaved_block interleaves order order_once order_size order_low)
          ∙ ap (λ (l : List Dart). insert_all l (block_in m).darts) (sym new_are)

      pub taken_image : {kinds links y : List ℕ} → Linking m (count_in m) (count_in c) x kinds links (transfer_links (block_in m).darts t)
          → Joins m c (count_in m) (count_in c) kinds links ranks y → y ≡ image (words_of lim) (received (block_in m) t)
      taken_image {kinds} {links} {y} ln j =
          let p = image_passed w interleaved_sound in
          let count : get_or w 2 0 ≡ count_in m + count_in c = count_is interleaves in
          let len : length y ≡ words_of lim = j.sewn.size ∙ size_is interleaves ∙ size in
          sym (ap (image (words_of lim)) (received_is (block_in m) t)
          ∙ (λ i. image (sym len i) (record { number = sym (number_is interleaves) i; counter = sym (counter_is interleaves) i; darts = map (relink (transfer_links (block_in m).darts t)) all_darts }))
          ∙ image_joined interleaves.interleaves.fits j.stand (subst (JoinIndexed c x ranks) (sym d.drafted.count_is) indexed) ln j.sewn
          p.range (omega (arith, size_is interleaves, interleaves.interleaves.holds)) count (subst (Places w) count (places w (count_in w) p.links))
          (λ a h one. subst (λ (e : ℕ). column w 4 a < e) count
          (sewn_places w (count_in w) p.thirds a (omega (arith, h, count)) one))
          all_darts darts_interleaved)
