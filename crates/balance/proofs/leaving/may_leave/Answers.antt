-- `balance::leaving::may_leave` meets its contract. Assumes nothing.
use mathlib.Core.Bool.{true≢false}
use mathlib.Core.Path.{ap, ◌∙◌}
use native.Mathlib.Omega.{arith}
use Rattle.model.specs.Values.{Limits}
use Rattle.departure.proofs.Told.{volume_departs_told, volume_refused_told, forgotten_told}
use Rattle.balance.proofs.Strikes.{by_rack, leaves_yes, leaves_no}
use borrow.Author.Rules.{rules}
use Rattle.balance.proofs.leaving.may_leave.Goals as goal

pub volume_leaves-requires : goal.volume_leaves-requires
volume_leaves-requires c =
    let a = c.requires.asking in
    let volume = ap (λ (l : Limits). l.volume_darts) c.rack.ensures in
    record {
      block_value = (c.requires.block_value.0, omega (arith, volume), c.requires.block_value.1);
      block_in_bounds = (a.marks_size, a.unmarked, a.seen_size, a.unseen);
      block_in_bounds_2 = (a.order_size, a.starts_size, a.numbers_size);
      block_in_bounds_3 = (a.firsts_size, omega (arith, volume, a.colours_size));
    }

pub returns-in-Ok : goal.returns-in-Ok
returns-in-Ok c =
    let block = c.args.block.now in
    let place = c.args.place.0 in
    record {
      answer = leaves_yes block place c.requires.block_value.1
          ((volume_departs_told _ block place _ _ _ _ _ c.volume_leaves.ensures.answer c.in-Ok.is).asked ∙ by_rack block place c.rack.ensures);
      again = λ e. absurd (true≢false e);
    }

pub returns-in-Err : goal.returns-in-Err
returns-in-Err c =
    let block = c.args.block.now in
    let place = c.args.place.0 in
    let a = c.requires.asking in
    let f = forgotten_told _ _ c.volume_leaves.ensures.clear c.in-Err.is in
    record {
      answer = leaves_no block place c.requires.block_value.1 _
          (volume_refused_told _ block place _ _ _ _ _ c.volume_leaves.ensures.answer c.in-Err.is ∙ by_rack block place c.rack.ensures);
      again = λ e. record {
        marks_size = search rules;
        unmarked = f.0;
        order_size = search rules;
        starts_size = search rules;
        seen_size = search rules;
        unseen = f.1;
        numbers_size = search rules;
        firsts_size = search rules;
        colours_size = search rules;
      };
    }
