-- A record whose dart stays and whose memory changes: the places that it links to, moved by a table. Assumes nothing.
use Rattle.std.specs.Prelude.{◌≡◌, true, cond, ℕ, ◌<◌}
use Rattle.model.specs.Image.{is_sewn_word}
use Rattle.memory.specs.declared.record.Record.{Record}

-- the link word of kind word k, with places moved by t: only a sewn dart's is a place
unfoldable pub moved_link : (ℕ → ℕ) → ℕ → ℕ → ℕ
moved_link t k a = cond (is_sewn_word k) (t a) a

abbrev pub renumbered : (ℕ → ℕ) → Record → Record
renumbered t r = record {
  serial = r.serial;
  next = t r.next;
  opposite = t r.opposite;
  kind = r.kind;
  link = moved_link t r.kind r.link;
  x = r.x;
  y = r.y;
  z = r.z;
}

-- the places that it links to lie below n
pub record LinksBelow (n : ℕ) (r : Record) : Type 0 where
  pub next_lt : r.next < n
  pub opposite_lt : r.opposite < n
  pub sewn_lt : is_sewn_word r.kind ≡ true → r.link < n
