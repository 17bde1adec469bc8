-- A record whose places have moved, word by word. Assumes nothing.
use mathlib.Core.Path.{◌≡◌, refl}
use mathlib.Core.Bool.{true, false}
use Prim.Native.Nat.{ℕ}
use Rattle.model.specs.Image.{is_sewn_word}
use Rattle.memory.specs.declared.record.Record.{Record}
use Rattle.place.specs.Renumber.{moved_link, renumbered}

pub link_sewn : (t : ℕ → ℕ) (k a : ℕ) → is_sewn_word k ≡ true → t a ≡ moved_link t k a
unfolding moved_link
link_sewn t k a e = rw e refl

pub link_other : (t : ℕ → ℕ) (k a : ℕ) → is_sewn_word k ≡ false → a ≡ moved_link t k a
unfolding moved_link
link_other t k a e = rw e refl

pub links_moved : (t : ℕ → ℕ) (r : Record) {next opposite link : ℕ} → next ≡ t r.next → opposite ≡ t r.opposite → link ≡ moved_link t r.kind r.link
    → ◌≡◌ {A = Record}
    (record { serial = r.serial; next = next; opposite = opposite; kind = r.kind; link = link; x = r.x; y = r.y; z = r.z })
    (renumbered t r)
links_moved t r n o l = λ i. record { serial = r.serial; next = n i; opposite = o i; kind = r.kind; link = l i; x = r.x; y = r.y; z = r.z }
