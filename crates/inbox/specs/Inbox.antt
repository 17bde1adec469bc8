-- What the readers of a message answer, and what their arrays hold then. Assumes nothing.
use Rattle.groups.specs.Slices.{MaybeRead}
use Rattle.std.specs.Prelude.{◌≡◌, Bool, true, false, ◌&&◌, List, [], ◌∷◌, ◌++◌, map, ℕ, ◌+◌, ◌*◌, ◌≤◌, ◌<◌, leb, eqb, length, take, drop, set, replicate, None, Option, Some}
use Rattle.std.proofs.Math.Option.{none, some}
use Rattle.model.specs.Lists.{any, tab, concat}
use Rattle.model.specs.Values.{Point, message_darts}
use Rattle.model.specs.Layouts.{Read as Reading, coordinate, times, counted, get_all}
use Rattle.model.specs.Messages.{FaceDart, face_dart, point, size_all}
use Rattle.codec.specs.Taken.{Took}
use Rattle.inbox.specs.declared.faces.Faces.{Faces}

-- darts that a message may have
abbrev pub most : ℕ
most = message_darts

-- POINTS stay where they stand, 24 bytes each
abbrev pub value_or_zero : Reading ℕ → ℕ
value_or_zero none = 0
value_or_zero (some r) = r.0

unfoldable pub word_in : List ℕ → ℕ → ℕ
word_in s at = value_or_zero (coordinate.get (drop at s))

abbrev pub point_in : List ℕ → ℕ → Point
point_in s at = record { x = word_in s at; y = word_in s (at + 8); z = word_in s (at + 16) }

unfoldable pub points_in : List ℕ → ℕ → ℕ → List Point
points_in s from n = tab (λ k. point_in s (from + 24 * k)) n

-- how many there are, and where the first one stands
abbrev pub PointsSaid : List ℕ → ℕ → MaybeRead → Type 0
PointsSaid s at None = (counted point).get (drop at s) ≡ none
PointsSaid s at (Some (n, from)) = ((counted point).get (drop at s) ≡ some (points_in s from n, drop (from + 24 * n) s)) × (at ≤ from) × (from + 24 * n ≤ length s)

pub record PointsRead (s : List ℕ) (at : ℕ) (r : MaybeRead) : Type 0 where
  pub said : PointsSaid s at r

-- FACES in arrays by index: vertex and serial of each dart, the index of its face's start, the size of its face
pub record Sides (vertex serial starts sizes : List ℕ) : Type 0 where
  pub vertex_size : length vertex ≡ most
  pub serial_size : length serial ≡ most
  pub starts_size : length starts ≡ most
  pub sizes_size : length sizes ≡ most

-- a list put into an array from index i on
pub record Grown (i : ℕ) (l before after : List ℕ) : Type 0 where
  pub front : take (i + length l) after ≡ take i before ++ l
  pub size : length after ≡ length before

-- the dart with index i
abbrev pub DartSaid : List ℕ → ℕ → ℕ → List ℕ → List ℕ → List ℕ → List ℕ → MaybeRead → Type 0
DartSaid s at i v v' x x' None = (face_dart.get (drop at s) ≡ none) × (v' ≡ v) × (x' ≡ x)
DartSaid s at i v v' x x' (Some (w, next)) = (d : FaceDart) × Took face_dart s at d next × (v' ≡ set v i d.vertex) × (x' ≡ set x i d.serial)

pub record DartRead (s : List ℕ) (at i : ℕ) (v v' x x' : List ℕ) (r : MaybeRead) : Type 0 where
  pub said : DartSaid s at i v v' x x' r

-- darts of a face of some size from index i on
pub record DartsIn (i size : ℕ) (ds : List FaceDart) (v v' x x' b b' z z' : List ℕ) : Type 0 where
  pub vertices : Grown i (map (λ d. d.vertex) ds) v v'
  pub serials : Grown i (map (λ d. d.serial) ds) x x'
  pub starts : Grown i (replicate (length ds) i) b b'
  pub sizes : Grown i (replicate (length ds) size) z z'

abbrev pub DartsSaid : List ℕ → ℕ → ℕ → ℕ → List ℕ → List ℕ → List ℕ → List ℕ → List ℕ → List ℕ → List ℕ → List ℕ → MaybeRead → Type 0
DartsSaid s at i size v v' x x' b b' z z' None = (get_all face_dart size (drop at s) ≡ none) × Sides v' x' b' z'
DartsSaid s at i size v v' x x' b b' z z' (Some (n, next)) = (n ≡ size) × ((ds : List FaceDart) × Took (times size face_dart) s at ds next × (length ds ≡ size) × DartsIn i size ds v v' x x' b b' z z')

pub record DartsRead (s : List ℕ) (at i size : ℕ) (v v' x x' b b' z z' : List ℕ) (r : MaybeRead) : Type 0 where
  pub said : DartsSaid s at i size v v' x x' b b' z z' r

-- a face whose start has index i: where none is read, there is none that fits
abbrev pub FaceSaid : List ℕ → ℕ → ℕ → List ℕ → List ℕ → List ℕ → List ℕ → List ℕ → List ℕ → List ℕ → List ℕ → MaybeRead → Type 0
FaceSaid s at i v v' x x' b b' z z' None = ((f : List FaceDart) (rest : List ℕ) → (counted face_dart).get (drop at s) ≡ some (f, rest) → most < i + length f) × Sides v' x' b' z'
FaceSaid s at i v v' x x' b b' z z' (Some (n, next)) = (f : List FaceDart) × Took (counted face_dart) s at f next × (n ≡ length f) × (i + length f ≤ most) × DartsIn i n f v v' x x' b b' z z'

pub record FaceRead (s : List ℕ) (at i : ℕ) (v v' x x' b b' z z' : List ℕ) (r : MaybeRead) : Type 0 where
  pub said : FaceSaid s at i v v' x x' b b' z z' r

-- for each dart the index of its face's start, and the size of its face
unfoldable pub starts_of : ℕ → List (List FaceDart) → List ℕ
starts_of i [] = []
starts_of i (f ∷ fs) = replicate (length f) i ++ starts_of (i + length f) fs

unfoldable pub sizes_of : List (List FaceDart) → List ℕ
sizes_of [] = []
sizes_of (f ∷ fs) = replicate (length f) (length f) ++ sizes_of fs

pub record FacesIn (fs : List (List FaceDart)) (v x b z : List ℕ) : Type 0 where
  pub vertices : take (size_all fs) v ≡ map (λ d. d.vertex) (concat fs)
  pub serials : take (size_all fs) x ≡ map (λ d. d.serial) (concat fs)
  pub starts : take (size_all fs) b ≡ starts_of 0 fs
  pub sizes : take (size_all fs) z ≡ sizes_of fs

-- "1 to 512 darts"
abbrev pub some_darts : List (List FaceDart) → Bool
some_darts fs = leb 1 (size_all fs) && leb (size_all fs) message_darts

-- a face of size 0
abbrev pub is_hollow : List (List FaceDart) → Bool
is_hollow fs = any (λ f. eqb (length f) 0) fs

-- the faces, or that there are none of so many darts
abbrev pub FacesSaid : List ℕ → ℕ → ℕ → List ℕ → List ℕ → List ℕ → List ℕ → Option Faces → Type 0
FacesSaid s at count v x b z None = (fs : List (List FaceDart)) (rest : List ℕ) → get_all (counted face_dart) count (drop at s) ≡ some (fs, rest) → some_darts fs ≡ false
FacesSaid s at count v x b z (Some r) =
    (fs : List (List FaceDart)) × Took (times count (counted face_dart)) s at fs r.next × (some_darts fs ≡ true) × (r.darts ≡ size_all fs) × (r.hollow ≡ is_hollow fs) × FacesIn fs v x b z

pub record FacesRead (s : List ℕ) (at count : ℕ) (v x b z : List ℕ) (r : Option Faces) : Type 0 where
  pub sides : Sides v x b z
  pub said : FacesSaid s at count v x b z r

-- PARTS stay where they stand
-- the array has the size of the face of each dart
pub record Sized (fs : List (List FaceDart)) (darts : ℕ) (sizes : List ℕ) : Type 0 where
  pub count : darts ≡ size_all fs
  pub front : take (size_all fs) sizes ≡ sizes_of fs
