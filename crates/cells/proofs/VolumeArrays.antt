-- What the arrays of a volume hold, by serial: message order, vertex numbers and the answer to question 13. Assumes nothing.
use mathlib.Core.Path.{◌≡◌, sym, ◌∙◌, ap}
use mathlib.Core.List.{List, map}
use Prim.Native.Nat.{ℕ, ◌<◌}
use native.Mathlib.Omega.{arith}
use lib.ListN.{length, get_or, take, length-map}
use Rattle.model.specs.Lists.{concat}
use Rattle.model.specs.Cells.{faces, faces_in, vertex, vertices, vertex_number, volume_in, next_in, opposite_in}
use Rattle.model.specs.Image.{count_in, column}
use Rattle.model.specs.Links.{pairs_once, vertex_pairs}
use Rattle.laws.proofs.Members.{In, distinct_fewer}
use Rattle.cells.specs.Places.{InOrder, Marked, Numbered, ends_once, marked, volume_of}
use Rattle.cells.proofs.Sited.{Sited, darts_in}
use Rattle.cells.proofs.FaceLaws.{marked_distinct, only, has}
use Rattle.cells.proofs.FaceSerials.{closed_next, closed_opposite, order_serials, volume_marked}
use Rattle.cells.proofs.VertexSerials.{vertices_serials, number_serial}
use Rattle.cells.proofs.VolumeReady.{whole, out_whole}
use Rattle.cells.proofs.PairsNumbered.{pairs_numbered, pairs_order, question_13}

module _ {m : List ℕ} (site : Sited m) (p : ℕ) (h : p < count_in m) {marks : List ℕ} (mk : Marked (volume_of m p) marks) where
  module _ {out starts : List ℕ} {darts count : ℕ} (o : InOrder (faces (column m 1) (marked (count_in m) marks)) out starts darts count) where
    -- the serials in message order
    pub out_serials : map (column m 0) (take darts out) ≡ concat (faces_in (darts_in m) (column m 0 p))
    out_serials = ap (map (column m 0)) o.order ∙ order_serials site p h mk

    -- as many as the volume has
    pub out_count : darts ≡ length (volume_in (darts_in m) (column m 0 p))
    out_count = let l = site.linked in
        let fs = concat (faces (column m 1) (marked (count_in m) marks)) in
        let v = marked (count_in m) marks in
        let a = distinct_fewer fs v (whole l h mk).once (only (count_in m) (column m 1) marks l.few l.next_within l.next_apart (closed_next l h mk)) in
        let b = distinct_fewer v fs (marked_distinct (count_in m) (column m 1) marks l.few l.next_within l.next_apart (closed_next l h mk))
        (has (count_in m) (column m 1) marks l.few l.next_within l.next_apart (closed_next l h mk)) in
        omega (arith, o.darts_are, ap length (volume_marked site p h mk), length-map v (column m 0))

    module _ {numbers first : List ℕ} {vs : ℕ} (nb : Numbered (column m 1) (column m 2) (take darts out) numbers first vs) where
      -- the number of a dart's vertex
      pub number_of : (q : ℕ) → In q (take darts out)
          → get_or numbers q 0
          ≡ vertex_number (next_in (darts_in m)) (opposite_in (darts_in m)) (concat (faces_in (darts_in m) (column m 0 p)))
          (column m 0 q)
      number_of q k = nb.number q k ∙ sym (number_serial site (take darts out) (out_whole site.linked h mk o).below q k)
          ∙ ap (λ (l : List ℕ). vertex_number (next_in (darts_in m)) (opposite_in (darts_in m)) l (column m 0 q)) out_serials

      -- the vertices, from the first dart of each
      pub vertices_of : map (column m 0) (map (vertex (column m 1) (column m 2)) (take vs first))
          ≡ vertices (next_in (darts_in m)) (opposite_in (darts_in m)) (concat (faces_in (darts_in m) (column m 0 p)))
      vertices_of = ap (map (column m 0)) nb.firsts_are ∙ sym (vertices_serials site (take darts out) (out_whole site.linked h mk o).below)
          ∙ ap (vertices (next_in (darts_in m)) (opposite_in (darts_in m))) out_serials

      pub vertex_count : vs ≡ length (vertices (next_in (darts_in m)) (opposite_in (darts_in m)) (concat (faces_in (darts_in m) (column m 0 p))))
      vertex_count = nb.count_is ∙ sym (length-map (vertices (column m 1) (column m 2) (take darts out)) (column m 0))
          ∙ ap length (sym (vertices_serials site (take darts out) (out_whole site.linked h mk o).below) ∙ ap (vertices (next_in (darts_in m)) (opposite_in (darts_in m))) out_serials)

      -- what the answer of `pairs_once` says
      pub pairs_answer : ends_once (column m 1) (column m 2) numbers first vs ≡ pairs_once (vertex_pairs (next_in (darts_in m)) (opposite_in (darts_in m)) (volume_in (darts_in m) (column m 0 p)))
      pairs_answer = let l = site.linked in
          pairs_numbered (count_in m) (column m 1) (column m 2) l.few l.next_within l.next_apart l.opposite_within l.opposite_apart (out_whole l h mk o) nb
          ∙ ap (λ (v : List ℕ). pairs_once (vertex_pairs (column m 1) (column m 2) v)) o.order
          ∙ pairs_order (count_in m) (column m 1) (column m 2) marks l.few l.next_within l.next_apart l.opposite_within (closed_next l h mk) (closed_opposite l h mk)
          ∙ sym (question_13 site p h mk)
