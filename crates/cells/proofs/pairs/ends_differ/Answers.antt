use mathlib.Core.Path.{refl, sym, ap, ◌∙◌}
use Prim.Native.Nat.{ℕ, ◌<◌}
use lib.ListN.{length, get_or, length-set}
use Rattle.model.specs.Cells.{ring}
use Rattle.cells.proofs.Paths.{round, going_start, going_next}
use Rattle.cells.proofs.RingLaws.{step_within, step_apart}
use Rattle.cells.proofs.PairLaws.{going_in, coloured_first, coloured_next, coloured_size, ending_more, ending_twice, ending_all}
use native.Mathlib.Omega.{arith}
use Rattle.cells.proofs.pairs.ends_differ.Goals as goal

pub loop-n-init : goal.loop-n-init
loop-n-init c =
    let colours = c.args.colours.now in
    let l = c.requires.linked.0 in
    record {
      going =
          going_start
          (round l.few (step_within _ _ _ l.few l.next_within l.next_apart l.opposite_within l.opposite_apart)
          (step_apart _ _ _ l.few l.next_within l.next_apart l.opposite_within l.opposite_apart) _
          c.requires.linked.1) c.requires.linked.1;
      differ = refl;
      coloured = coloured_first colours c.requires.linked.2 c.requires.by_index_2 c.give_colour.ensures.coloured;
    }

pub field-q-requires : goal.field-q-requires
field-q-requires c =
    (omega (arith, c.loop-n.invariant.going.below, c.requires.linked.0.size), omega arith)

pub offset_bounds-numbers-q : goal.offset_bounds-numbers-q
offset_bounds-numbers-q c =
    omega (arith, c.field-q.ensures, c.requires.linked.0.next_within _ c.loop-n.invariant.going.below, c.requires.linked.0.few)

pub bounds-numbers-q : goal.bounds-numbers-q
unfolding ring
bounds-numbers-q c =
    let l = c.requires.linked.0 in
    let w = step_within _ _ _ l.few l.next_within l.next_apart l.opposite_within l.opposite_apart in
    let r = round l.few w (step_apart _ _ _ l.few l.next_within l.next_apart l.opposite_within l.opposite_apart) _ c.requires.linked.1 in
    omega (arith, c.field-q.ensures, (c.requires.by_index _ (going_in r c.loop-n.invariant.going)).0)

pub give_colour-requires-in-loop-n : goal.give_colour-requires-in-loop-n
unfolding ring
give_colour-requires-in-loop-n c =
    let colours = c.args.colours.now in
    let numbers = c.args.numbers.now in
    let l = c.requires.linked.0 in
    let w = step_within _ _ _ l.few l.next_within l.next_apart l.opposite_within l.opposite_apart in
    let r = round l.few w (step_apart _ _ _ l.few l.next_within l.next_apart l.opposite_within l.opposite_apart) _ c.requires.linked.1 in (
      omega (arith, c.loop-n.invariant.coloured.size, ap length c.give_colour.ensures.coloured ∙ length-set colours _ _, c.requires.linked.3),
      omega (
        arith,
        c.loop-n.invariant.coloured.size,
        ap length c.give_colour.ensures.coloured ∙ length-set colours _ _,
        ap (λ (z : ℕ). get_or numbers z 0) c.field-q.ensures,
        (c.requires.by_index _ (going_in r c.loop-n.invariant.going)).1,
      ),
    )

pub shape_of-colours-then-not-give_colour : goal.shape_of-colours-then-not-give_colour
shape_of-colours-then-not-give_colour c =
    coloured_size _ c.loop-n.invariant.coloured c.give_colour-in-loop-n.ensures.coloured ∙ ap length c.give_colour.ensures.coloured ∙ length-set
    c.args.colours.now _ _

pub returns-then-not-give_colour : goal.returns-then-not-give_colour
unfolding ring
returns-then-not-give_colour c =
    let numbers = c.args.numbers.now in
    let colours = c.args.colours.now in
    let l = c.requires.linked.0 in
    let w = step_within _ _ _ l.few l.next_within l.next_apart l.opposite_within l.opposite_apart in
    let r = round l.few w (step_apart _ _ _ l.few l.next_within l.next_apart l.opposite_within l.opposite_apart) _ c.requires.linked.1 in
    let e = ap (λ (z : ℕ). get_or numbers z 0) c.field-q.ensures in
    let small : get_or numbers c.field-q.result 0 < length c.give_colour.new.colours =
    omega
    (arith, e, ap length c.give_colour.ensures.coloured ∙ length-set colours _ _, (c.requires.by_index _ (going_in r c.loop-n.invariant.going)).1)
    in
    let s = coloured_next c.loop-n.invariant.coloured small c.give_colour-in-loop-n.ensures.coloured in
    record {
      differ = ending_twice w r c.loop-n.invariant e small (sym c.give_colour-in-loop-n.ensures.fresh ∙ c.if-not-give_colour.true);
      bound = s.bound;
      size = s.size ∙ ap length c.give_colour.ensures.coloured ∙ length-set colours _ _;
    }

pub overflow_add-steps : goal.overflow_add-steps
overflow_add-steps c =
    let l = c.requires.linked.0 in
    let w = step_within _ _ _ l.few l.next_within l.next_apart l.opposite_within l.opposite_apart in
    let a = step_apart _ _ _ l.few l.next_within l.next_apart l.opposite_within l.opposite_apart in
    omega (arith, c.loop-n.invariant.going.less, (round l.few w a c.args.start.0 c.requires.linked.1).few)

pub ring_step-p-requires : goal.ring_step-p-requires
ring_step-p-requires c =
    (c.requires.linked.0, c.loop-n.invariant.going.below)

pub shape_of-colours-then-p-first : goal.shape_of-colours-then-p-first
shape_of-colours-then-p-first c =
    coloured_size _ c.loop-n.invariant.coloured c.give_colour-in-loop-n.ensures.coloured ∙ ap length c.give_colour.ensures.coloured ∙ length-set
    c.args.colours.now _ _

pub returns-then-p-first : goal.returns-then-p-first
unfolding ring
returns-then-p-first c =
    let numbers = c.args.numbers.now in
    let colours = c.args.colours.now in
    let l = c.requires.linked.0 in
    let w = step_within _ _ _ l.few l.next_within l.next_apart l.opposite_within l.opposite_apart in
    let r = round l.few w (step_apart _ _ _ l.few l.next_within l.next_apart l.opposite_within l.opposite_apart) _ c.requires.linked.1 in
    let e = ap (λ (z : ℕ). get_or numbers z 0) c.field-q.ensures in
    let small : get_or numbers c.field-q.result 0 < length c.give_colour.new.colours =
    omega
    (arith, e, ap length c.give_colour.ensures.coloured ∙ length-set colours _ _, (c.requires.by_index _ (going_in r c.loop-n.invariant.going)).1)
    in
    let s = coloured_next c.loop-n.invariant.coloured small c.give_colour-in-loop-n.ensures.coloured in
    record {
      differ = ending_all w r c.loop-n.invariant e small (sym c.give_colour-in-loop-n.ensures.fresh ∙ c.if-not-give_colour.false)
          c.ring_step-p.ensures c.if-p-first.true;
      bound = s.bound;
      size = s.size ∙ ap length c.give_colour.ensures.coloured ∙ length-set colours _ _;
    }

pub loop-n-smaller : goal.loop-n-smaller
loop-n-smaller c =
    omega arith

pub loop-n-preserved : goal.loop-n-preserved
unfolding ring
loop-n-preserved c =
    let numbers = c.args.numbers.now in
    let colours = c.args.colours.now in
    let l = c.requires.linked.0 in
    let w = step_within _ _ _ l.few l.next_within l.next_apart l.opposite_within l.opposite_apart in
    let r = round l.few w (step_apart _ _ _ l.few l.next_within l.next_apart l.opposite_within l.opposite_apart) _ c.requires.linked.1 in
    let e = ap (λ (z : ℕ). get_or numbers z 0) c.field-q.ensures in
    let small : get_or numbers c.field-q.result 0 < length c.give_colour.new.colours =
    omega
    (arith, e, ap length c.give_colour.ensures.coloured ∙ length-set colours _ _, (c.requires.by_index _ (going_in r c.loop-n.invariant.going)).1)
    in
    ending_more w r c.loop-n.invariant e small (sym c.give_colour-in-loop-n.ensures.fresh ∙ c.if-not-give_colour.false)
    c.give_colour-in-loop-n.ensures.coloured
    (going_next w r c.loop-n.invariant.going c.ring_step-p.ensures c.if-p-first.false)
