-- What links reach: faces, volumes, rings; the order of darts in a message; the links and labels of a block. Assumes nothing.
-- A link is a function from serials to serials; 0 is no serial. The same functions serve a block, a message and the whole map.
use Rattle.std.specs.Prelude.{Bool, cond, List, [], ◌∷◌, map, ℕ, zero, suc, ◌*◌, leb, eqb, get_or}
use Rattle.model.specs.Lists.{all, keep, mem, find, collect, least, firsts, index_of}
use Rattle.model.specs.Values.{room, Label, Third, Dart, or_no_dart, code, label_key, label_of}

-- x, f x, f (f x) and so on, up to the one before `start` comes again, n at the most
unfoldable pub around : (ℕ → ℕ) → ℕ → ℕ → ℕ → List ℕ
around f start zero x = []
around f start (suc n) x = let rest = around f start n (f x) in x ∷ cond (eqb (f x) start) [] rest

-- the cycle of f from x on. So many steps are enough where x and what f reaches stay within a block: with more of them the cycle is the
-- same (laws, Faces.cycle_enough; then EnoughSteps: in theory of a sound block, in soundness of a message, in agreement of the whole map)
unfoldable pub cycle : (ℕ → ℕ) → ℕ → List ℕ
cycle f x = around f x room x

-- what f and g reach from what is still to do
unfoldable pub reach : (ℕ → ℕ) → (ℕ → ℕ) → ℕ → List ℕ → List ℕ → List ℕ
reach f g zero seen todo = seen
reach f g (suc n) seen [] = seen
reach f g (suc n) seen (x ∷ todo) =
    let on = reach f g n (x ∷ seen) (f x ∷ g x ∷ todo) in
    let past = reach f g n seen todo in
    cond (mem x seen) past on

-- "A volume is what next and opposite reach": the least set with s that is closed under both (laws, Volumes.volume_is). So many steps are
-- enough, since each dart of a block is met three times at the most: with more of them the volume is the same (laws, Volumes.volume_enough;
-- then EnoughSteps, as above)
unfoldable pub volume : (ℕ → ℕ) → (ℕ → ℕ) → ℕ → List ℕ
volume nx op s = reach nx op (3 * room) [] (s ∷ [])

-- "A ring is what d → next(opposite d) reaches; it is one vertex of one volume"
unfoldable pub ring : (ℕ → ℕ) → (ℕ → ℕ) → ℕ → List ℕ
ring nx op x = cycle (λ d. nx (op d)) x

-- a ring's least serial stands for it
unfoldable pub vertex : (ℕ → ℕ) → (ℕ → ℕ) → ℕ → ℕ
vertex nx op x = least (ring nx op x)

-- MESSAGE ORDER of darts in ascending serial: "faces by least serial, each started at its least serial, along next"
unfoldable pub faces : (ℕ → ℕ) → List ℕ → List (List ℕ)
faces nx xs = map (cycle nx) (keep (λ x. all (leb x) (cycle nx x)) xs)

abbrev pub start_of : List ℕ → ℕ
start_of f = get_or f 0 0

-- "Vertices are the rings, numbered from 0 by first use": the vertices of darts in message order, each once
unfoldable pub vertices : (ℕ → ℕ) → (ℕ → ℕ) → List ℕ → List ℕ
vertices nx op order = firsts (map (vertex nx op) order)

-- the number of a dart's vertex
unfoldable pub vertex_number : (ℕ → ℕ) → (ℕ → ℕ) → List ℕ → ℕ → ℕ
vertex_number nx op order x = index_of (vertex nx op x) (vertices nx op order)

-- THE DARTS OF A BLOCK
abbrev pub serials : List Dart → List ℕ
serials ds = map (λ d. d.serial) ds

abbrev pub held : List Dart → ℕ → Bool
held ds x = mem x (serials ds)

unfoldable pub dart_at : List Dart → ℕ → Dart
dart_at ds x = or_no_dart (find (λ d. d.serial) x ds)

abbrev pub next_in : List Dart → ℕ → ℕ
next_in ds x = (dart_at ds x).next

abbrev pub opposite_in : List Dart → ℕ → ℕ
opposite_in ds x = (dart_at ds x).opposite

abbrev pub third_at : List Dart → ℕ → Third
third_at ds x = (dart_at ds x).third

unfoldable pub previous_in : List Dart → ℕ → ℕ
previous_in ds x = (or_no_dart (find (λ d. d.next) x ds)).serial

-- the volume of a dart, in ascending serial
unfoldable pub volume_in : List Dart → ℕ → List ℕ
volume_in ds s = let v = volume (next_in ds) (opposite_in ds) s in keep (λ x. mem x v) (serials ds)

-- its faces, in message order
unfoldable pub faces_in : List Dart → ℕ → List (List ℕ)
faces_in ds s = faces (next_in ds) (volume_in ds s)

-- the least serial of each volume, ascending
unfoldable pub volume_starts : List Dart → List ℕ
volume_starts ds = keep (λ x. all (leb x) (volume_in ds x)) (serials ds)

-- THE LABELS OF A BLOCK
unfoldable pub labels : List Dart → List Label
labels ds = collect (λ d. label_of d.third) ds

-- along some of its darts
unfoldable pub labels_along : List Dart → List ℕ → List Label
labels_along ds f = collect (λ x. label_of (third_at ds x)) f

-- the code of the least of them
unfoldable pub least_label : List Dart → List ℕ → ℕ
least_label ds f = least (map code (labels_along ds f))

-- the dart with a label
unfoldable pub labelled : Label → List Dart → Dart
labelled l ds = or_no_dart (find (λ d. label_key d.third) (suc (code l)) ds)
