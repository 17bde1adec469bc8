-- The answer of next move: the model's, of each case of the enum with what stands beside it. Assumes nothing.
use Rattle.std.specs.Prelude.{◌≡◌, List, ℕ, ℤ, pos, replicate}
use Rattle.model.specs.Values.{blocks}
use Rattle.model.specs.Balance as balance
use Rattle.model.specs.Calls as calls
use Rattle.answers.specs.Answers.{question}
use Rattle.answers.specs.declared.NextMove.{NextMove}
use Rattle.answers.specs.declared.NextMove.TheVariants as move
use Rattle.balance.specs.declared.nextmove.Balance.{Balance}

-- "The next move's answer carries the mean and each block's surplus beside it"
unfoldable pub answer_with : NextMove → ℕ → List ℤ → calls.Answer balance.Balance
answer_with move.Level m ss = calls.served (record { next = balance.level; mean = m; surplus = ss })
answer_with move.Blocked m ss = calls.served (record { next = balance.blocked; mean = m; surplus = ss })
answer_with (move.Move d r s) m ss = calls.served (record { next = balance.move (record { donor = d; recipient = r; serial = s }); mean = m; surplus = ss })
answer_with (move.Refused q) m ss = calls.refused (question q)

abbrev pub balance_told : Balance → calls.Answer balance.Balance
balance_told b = answer_with b.next b.mean b.surplus

-- "all zero beside a refusal"
unfoldable pub ZeroBeside : NextMove → ℕ → List ℤ → Type 0
ZeroBeside (move.Refused q) m ss = (m ≡ 0) × (ss ≡ replicate blocks (pos 0))
ZeroBeside move.Level m ss = Unit {0}
ZeroBeside move.Blocked m ss = Unit {0}
ZeroBeside (move.Move d r s) m ss = Unit {0}

abbrev pub NothingBeside : Balance → Type 0
NothingBeside b = ZeroBeside b.next b.mean b.surplus

-- what next move gives: a result's answer, nothing beside a refusal, and the scratch afterwards
pub record GivesBalance (result : calls.Result balance.Balance) (b : Balance) (lent : List ℕ) : Type 0 where
  pub answer : balance_told b ≡ result.answer
  pub beside : NothingBeside b
  pub left : lent ≡ result.lent
