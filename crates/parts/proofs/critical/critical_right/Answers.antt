-- `parts::critical::critical_right` meets its contract.
-- Assumes nothing.
use mathlib.Core.Path.{sym, ◌∙◌}
use Rattle.cells.proofs.Sited.{sited}
use Rattle.parts.proofs.CriticalLaws.{few2, few3, few4, many_no, entries_no, put_spans3, put_spans4, put_numbers, put_others, put_labels, put_small, labels_tell}
use native.Mathlib.Omega.{arith}
use Rattle.parts.proofs.critical.critical_right.Goals as goal

pub returns-then-not-few : goal.returns-then-not-few
returns-then-not-few c =
    let block = c.args.block.now in
    let message = c.args.message.now in
    let starts = c.args.starts.now in
    let sizes = c.args.sizes.now in
    let k = c.args.k in
    let from = c.args.from in
    let to = c.args.to in
    let tail = c.args.tail in
    many_no block message starts sizes k from to tail (sym c.few.ensures ∙ c.if-not-few.true)

pub read_pairs-requires : goal.read_pairs-requires
read_pairs-requires c =
    let tail = c.args.tail in
    let few-yes = sym c.few.ensures ∙ c.if-not-few.false in (
      (let r = c.requires.by_index.3.part2_in in let a = r.onward in let b = r.within in omega (arith, a, b)),
      omega (arith, few2 tail few-yes, c.requires.block_value.3),
      omega (arith, few2 tail few-yes, c.requires.block_value.4),
    )

pub read_pairs-requires-2 : goal.read_pairs-requires-2
read_pairs-requires-2 c =
    let tail = c.args.tail in
    let few-yes = sym c.few.ensures ∙ c.if-not-few.false in (
      (let r = c.requires.by_index.3.part3_in in let a = r.onward in let b = r.within in omega (arith, a, b)),
      omega (arith, few3 tail few-yes, c.requires.k_in_bounds.0),
      omega (arith, few3 tail few-yes, c.requires.k_in_bounds.1),
    )

pub read_part4-requires : goal.read_part4-requires
read_part4-requires c =
    let tail = c.args.tail in
    let few-yes = sym c.few.ensures ∙ c.if-not-few.false in (
      (let r = c.requires.by_index.3.part4_in in let a = r.onward in let b = r.within in omega (arith, a, b)),
      c.requires.block_value.2,
      omega (arith, few4 tail few-yes, c.requires.k_in_bounds.2),
      omega (arith, few4 tail few-yes, c.requires.k_in_bounds.3),
      omega (arith, few4 tail few-yes, c.requires.k_in_bounds.4),
    )

pub entries_fit-requires : goal.entries_fit-requires
entries_fit-requires c =
    let tail = c.args.tail in
    let few-yes = sym c.few.ensures ∙ c.if-not-few.false in (
      omega (arith, few2 tail few-yes, c.read_pairs.auto, c.requires.block_value.4),
      omega (arith, few3 tail few-yes, c.read_pairs-2.auto, c.requires.k_in_bounds.1),
      omega (arith, few3 tail few-yes, c.read_pairs-2.auto, c.requires.k_in_bounds.0),
      omega (arith, few4 tail few-yes, c.read_part4.auto, c.requires.k_in_bounds.2),
      omega (arith, few4 tail few-yes, c.read_part4.auto, c.requires.k_in_bounds.3),
      c.requires.block_value.1,
      omega (arith, few3 tail few-yes, c.requires.block_value.8),
      c.requires.k_in_bounds.5,
      c.requires.k_in_bounds.6,
    )

pub shape_of-codes-then-not-entries_fit : goal.shape_of-codes-then-not-entries_fit
shape_of-codes-then-not-entries_fit c =
    omega (arith, c.read_pairs.auto)

pub shape_of-indices-then-not-entries_fit : goal.shape_of-indices-then-not-entries_fit
shape_of-indices-then-not-entries_fit c =
    omega (arith, c.read_pairs.auto)

pub shape_of-numbers-then-not-entries_fit : goal.shape_of-numbers-then-not-entries_fit
shape_of-numbers-then-not-entries_fit c =
    omega (arith, c.read_pairs-2.auto)

pub shape_of-third-then-not-entries_fit : goal.shape_of-third-then-not-entries_fit
shape_of-third-then-not-entries_fit c =
    omega (arith, c.read_pairs-2.auto)

pub shape_of-fourth-then-not-entries_fit : goal.shape_of-fourth-then-not-entries_fit
shape_of-fourth-then-not-entries_fit c =
    omega (arith, c.read_part4.auto)

pub shape_of-others-then-not-entries_fit : goal.shape_of-others-then-not-entries_fit
shape_of-others-then-not-entries_fit c =
    omega (arith, c.read_part4.auto)

pub shape_of-places-then-not-entries_fit : goal.shape_of-places-then-not-entries_fit
shape_of-places-then-not-entries_fit c =
    omega (arith, c.read_part4.auto)

pub shape_of-marks-then-not-entries_fit : goal.shape_of-marks-then-not-entries_fit
shape_of-marks-then-not-entries_fit c =
    omega (arith, c.entries_fit.auto)

pub returns-then-not-entries_fit : goal.returns-then-not-entries_fit
returns-then-not-entries_fit c =
    let block = c.args.block.now in
    let starts = c.args.starts.now in
    let from = c.args.from in
    let to = c.args.to in
    let tail = c.args.tail in
    let few-yes = sym c.few.ensures ∙ c.if-not-few.false in
    entries_no block starts from to tail few-yes c.read_pairs.ensures c.read_pairs-2.ensures (
      c.read_part4.ensures,
      omega (arith, c.read_pairs-2.auto, c.requires.k_in_bounds.1),
      omega (arith, c.read_part4.auto, c.requires.k_in_bounds.2),
      omega (arith, c.read_part4.auto, c.requires.k_in_bounds.3),
    )
    (sym c.entries_fit.ensures ∙ c.if-not-entries_fit.true)

pub put_part3-requires : goal.put_part3-requires
put_part3-requires c =
    let block = c.args.block.now in
    let starts = c.args.starts.now in
    let from = c.args.from in
    let to = c.args.to in
    let tail = c.args.tail in
    let few-yes = sym c.few.ensures ∙ c.if-not-few.false in
    let entries-fit-yes = sym c.entries_fit.ensures ∙ c.if-not-entries_fit.false in
    record {
      c_in_bounds = (
        omega (arith, few3 tail few-yes, c.read_pairs-2.auto, c.requires.k_in_bounds.1),
        omega (arith, few3 tail few-yes, c.read_pairs-2.auto, c.requires.k_in_bounds.0),
        c.requires.block_value.9,
        put_numbers block starts from to tail few-yes c.read_pairs.ensures c.read_pairs-2.ensures (
          c.read_part4.ensures,
          omega (arith, c.read_pairs-2.auto, c.requires.k_in_bounds.1),
          omega (arith, c.read_part4.auto, c.requires.k_in_bounds.2),
          omega (arith, c.read_part4.auto, c.requires.k_in_bounds.3),
        )
            c.requires.block_value.8 entries-fit-yes c.requires.by_index.3,
      );
      by_index = (
        c.args.k,
        put_spans3 block starts from to tail few-yes c.read_pairs.ensures c.read_pairs-2.ensures (
          c.read_part4.ensures,
          omega (arith, c.read_pairs-2.auto, c.requires.k_in_bounds.1),
          omega (arith, c.read_part4.auto, c.requires.k_in_bounds.2),
          omega (arith, c.read_part4.auto, c.requires.k_in_bounds.3),
        )
            c.requires.block_value.8 entries-fit-yes c.requires.by_index.3,
        c.requires.block_value.2,
        c.requires.block_value.10,
        c.requires.block_value.11,
      );
    }

pub put_part4-requires : goal.put_part4-requires
put_part4-requires c =
    let block = c.args.block.now in
    let starts = c.args.starts.now in
    let from = c.args.from in
    let to = c.args.to in
    let tail = c.args.tail in
    let few-yes = sym c.few.ensures ∙ c.if-not-few.false in
    let entries-fit-yes = sym c.entries_fit.ensures ∙ c.if-not-entries_fit.false in
    record {
      c_in_bounds = (
        omega (arith, few4 tail few-yes, c.read_part4.auto, c.requires.k_in_bounds.2),
        omega (arith, few4 tail few-yes, c.read_part4.auto, c.requires.k_in_bounds.3),
        omega (arith, few4 tail few-yes, c.read_part4.auto, c.requires.k_in_bounds.4),
        put_others block starts from to tail few-yes c.read_pairs.ensures c.read_pairs-2.ensures (
          c.read_part4.ensures,
          omega (arith, c.read_pairs-2.auto, c.requires.k_in_bounds.1),
          omega (arith, c.read_part4.auto, c.requires.k_in_bounds.2),
          omega (arith, c.read_part4.auto, c.requires.k_in_bounds.3),
        )
            c.requires.block_value.8 entries-fit-yes c.requires.by_index.3,
        put_labels block starts from to tail few-yes c.read_pairs.ensures c.read_pairs-2.ensures (
          c.read_part4.ensures,
          omega (arith, c.read_pairs-2.auto, c.requires.k_in_bounds.1),
          omega (arith, c.read_part4.auto, c.requires.k_in_bounds.2),
          omega (arith, c.read_part4.auto, c.requires.k_in_bounds.3),
        )
            c.requires.block_value.8 entries-fit-yes c.requires.by_index.3,
      );
      by_index = (
        c.args.k,
        put_spans4 block starts from to tail few-yes c.read_pairs.ensures c.read_pairs-2.ensures (
          c.read_part4.ensures,
          omega (arith, c.read_pairs-2.auto, c.requires.k_in_bounds.1),
          omega (arith, c.read_part4.auto, c.requires.k_in_bounds.2),
          omega (arith, c.read_part4.auto, c.requires.k_in_bounds.3),
        )
            c.requires.block_value.8 entries-fit-yes c.requires.by_index.3,
        c.requires.block_value.2,
        omega (arith, c.put_part3.ensures.0.size, c.requires.block_value.10),
        omega (arith, c.put_part3.ensures.1.size, c.requires.block_value.11),
      );
    }

pub bounds-block-2 : goal.bounds-block-2
bounds-block-2 c =
    let n = (sited c.args.block.now c.requires.block_value.0).linked.size in
    omega (arith, n)

pub labels_fit-requires : goal.labels_fit-requires
labels_fit-requires c =
    let block = c.args.block.now in
    let starts = c.args.starts.now in
    let from = c.args.from in
    let to = c.args.to in
    let tail = c.args.tail in
    let few-yes = sym c.few.ensures ∙ c.if-not-few.false in
    let entries-fit-yes = sym c.entries_fit.ensures ∙ c.if-not-entries_fit.false in
    record {
      n_in_bounds = (
        (sited block c.requires.block_value.0).linked.size,
        (sited block c.requires.block_value.0).linked.few,
        omega (arith, c.put_part4.ensures.0.size, c.put_part3.ensures.0.size, c.requires.block_value.10),
        omega (arith, c.put_part4.ensures.1.size, c.put_part3.ensures.1.size, c.requires.block_value.11),
        c.requires.block_value.7,
        c.requires.block_value.8,
      );
      k_in_bounds = (
        omega (arith, c.read_pairs-2.auto, c.requires.k_in_bounds.0),
        omega (arith, c.read_pairs-2.auto, c.requires.k_in_bounds.1),
        omega (arith, c.read_part4.auto, c.requires.k_in_bounds.2),
        omega (arith, c.read_part4.auto, c.requires.k_in_bounds.4),
      );
      by_index = put_small block starts from to tail few-yes c.read_pairs.ensures c.read_pairs-2.ensures (
        c.read_part4.ensures,
        omega (arith, c.read_pairs-2.auto, c.requires.k_in_bounds.1),
        omega (arith, c.read_part4.auto, c.requires.k_in_bounds.2),
        omega (arith, c.read_part4.auto, c.requires.k_in_bounds.3),
      )
          c.requires.block_value.8 entries-fit-yes c.requires.block_value.9 c.requires.block_value.5 c.requires.block_value.6
          c.put_part3.ensures.0 c.put_part4.ensures.0 c.put_part3.ensures.1 c.put_part4.ensures.1 c.requires.by_index.3;
    }

pub shape_of-codes : goal.shape_of-codes
shape_of-codes c =
    omega (arith, c.read_pairs.auto)

pub shape_of-indices : goal.shape_of-indices
shape_of-indices c =
    omega (arith, c.read_pairs.auto)

pub shape_of-kinds : goal.shape_of-kinds
shape_of-kinds c =
    omega (arith, c.put_part4.ensures.0.size, c.put_part3.ensures.0.size)

pub shape_of-links : goal.shape_of-links
shape_of-links c =
    omega (arith, c.put_part4.ensures.1.size, c.put_part3.ensures.1.size)

pub shape_of-numbers : goal.shape_of-numbers
shape_of-numbers c =
    omega (arith, c.labels_fit.auto, c.read_pairs-2.auto)

pub shape_of-third : goal.shape_of-third
shape_of-third c =
    omega (arith, c.labels_fit.auto, c.read_pairs-2.auto)

pub shape_of-fourth : goal.shape_of-fourth
shape_of-fourth c =
    omega (arith, c.labels_fit.auto, c.read_part4.auto)

pub shape_of-others : goal.shape_of-others
shape_of-others c =
    omega (arith, c.read_part4.auto)

pub shape_of-places : goal.shape_of-places
shape_of-places c =
    omega (arith, c.labels_fit.auto, c.read_part4.auto)

pub shape_of-marks : goal.shape_of-marks
shape_of-marks c =
    omega (arith, c.entries_fit.auto)

pub returns : goal.returns
returns c =
    let block = c.args.block.now in
    let starts = c.args.starts.now in
    let from = c.args.from in
    let to = c.args.to in
    let tail = c.args.tail in
    let few-yes = sym c.few.ensures ∙ c.if-not-few.false in
    let entries-fit-yes = sym c.entries_fit.ensures ∙ c.if-not-entries_fit.false in
    labels_tell block starts from to tail few-yes c.read_pairs.ensures c.read_pairs-2.ensures (
      c.read_part4.ensures,
      omega (arith, c.read_pairs-2.auto, c.requires.k_in_bounds.1),
      omega (arith, c.read_part4.auto, c.requires.k_in_bounds.2),
      omega (arith, c.read_part4.auto, c.requires.k_in_bounds.3),
    )
    c.requires.block_value.8 entries-fit-yes c.requires.block_value.9 c.requires.block_value.5 c.requires.block_value.6
    c.put_part3.ensures.0 c.put_part4.ensures.0 c.put_part3.ensures.1 c.put_part4.ensures.1 c.requires.block_value.0 c.labels_fit.ensures
