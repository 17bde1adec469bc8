-- `decimal::digits_in` meets its contract. The loop's invariant (`Reading`): the bytes before i are digits, and give the value behind n. Assumes nothing.
use Rattle.decimal.proofs.Texts.{Reading}
use Rattle.decimal.proofs.digits_in.Given as goal

abbrev pub invariant-loop-i : goal.invariant-loop-i
invariant-loop-i l =
    Reading l.n l.text l.value l.i
