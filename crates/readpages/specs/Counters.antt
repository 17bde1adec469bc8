-- The least counter of a block, dart by dart. Assumes nothing.
use Rattle.std.specs.Prelude.{cond, ◌&&◌, ℕ, suc, ◌^◌, leb, ltb, eqb}
use Rattle.model.specs.Values.{Third, free, sewn, critical}

-- above c, and above the number of an own-made label
abbrev pub above_third : ℕ → Third → ℕ → ℕ
above_third me free c = c
above_third me (sewn y) c = c
above_third me (critical o l) c = cond (eqb l.maker me && leb c l.number) (suc l.number) c

-- the greatest counter in the place of one that is too large
abbrev pub capped : ℕ → ℕ
capped c = cond (ltb c (2 ^ 32)) c 4294967295
