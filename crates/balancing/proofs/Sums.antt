-- Sums over blocks of which one gives a volume to another that has two fewer at least: the squared counts and the differences fall by two at
-- least. And differences are few where counts are. Assumes nothing.
use mathlib.Core.Path.{◌≡◌, refl, sym, ◌∙◌, ap}
use mathlib.Core.Logic.{◌≢◌}
use mathlib.Core.Bool.{cond}
use mathlib.Core.List.{List, [], ◌∷◌, map}
use Prim.Native.Nat.{ℕ, zero, suc, ◌+◌, ◌*◌, ◌-◌, ◌<◌, ◌≤◌}
use native.Mathlib.Nat.{mul_comm, mul-le-mul_left}
use native.Mathlib.Omega.{arith}
use lib.Dec.{leb, eqb}
use lib.ListN.{length, get_or}
use borrow.Author.Tests.{eqb-true, eqb-false, eq-eqb, ne_eqb, leb-true, leb-false}
use Rattle.model.specs.Lists.{sum, tab}
use Rattle.laws.proofs.Tables.{map_tab, tab_cong}
use Rattle.laws.proofs.Tests.{by_cases}

-- SUMS OF TABLES
sum_le : (f g : ℕ → ℕ) (n : ℕ) → ((b : ℕ) → b < n → g b ≤ f b) → sum (tab g n) ≤ sum (tab f n)
sum_le f g zero h = omega arith
sum_le f g (suc n) h = omega (arith, h 0 (omega arith), sum_le (λ k. f (suc k)) (λ k. g (suc k)) n (λ b l. h (suc b) (omega arith)))

sum_add : (f g : ℕ → ℕ) (n : ℕ) → sum (tab (λ b. f b + g b) n) ≡ sum (tab f n) + sum (tab g n)
sum_add f g zero = refl
sum_add f g (suc n) = omega (arith, sum_add (λ k. f (suc k)) (λ k. g (suc k)) n)

sum_times : (c : ℕ) (f : ℕ → ℕ) (n : ℕ) → sum (tab (λ b. c * f b) n) ≡ c * sum (tab f n)
sum_times c f zero = omega arith
sum_times c f (suc n) = omega (arith, sum_times c (λ k. f (suc k)) n)

-- all values but one
abbrev but : ℕ → (ℕ → ℕ) → ℕ → ℕ
but i f b = cond (eqb b i) 0 (f b)

but_later : (f : ℕ → ℕ) (i b : ℕ) → but i (λ k. f (suc k)) b ≡ but (suc i) f (suc b)
but_later f i b = by_cases (eqb b i)
    (λ e. let same = eqb-true b i e in rw (e, eq-eqb (suc b) (suc i) (ap suc same)))
    (λ e. let other = eqb-false b i e in rw (e, ne_eqb (suc b) (suc i) (λ q. other (omega arith))))

sum_one : (f : ℕ → ℕ) (n i : ℕ) → i < n → sum (tab f n) ≡ f i + sum (tab (but i f) n)
sum_one f zero i h = absurd (omega arith)
sum_one f (suc n) zero h = let e = ap sum (tab_cong (λ k. f (suc k)) (λ k. but 0 f (suc k)) n (λ b l. sym (rw (ne_eqb (suc b) 0 (λ q. omega arith))))) in omega (arith, e)
sum_one f (suc n) (suc i) h =
    let e = ap sum (tab_cong (but i (λ k. f (suc k))) (λ k. but (suc i) f (suc k)) n (λ b l. but_later f i b)) in
    let z : but (suc i) f 0 ≡ f 0 = rw (ne_eqb 0 (suc i) (λ q. omega arith)) in
    omega (arith, sum_one (λ k. f (suc k)) n i (omega arith), e, z)

-- two values fall by m together, and no other rises
module _ (f g : ℕ → ℕ) (n i j m : ℕ) (hi : i < n) (hj : j < n) (apart : i ≢ j) (two : g i + g j + m ≤ f i + f j)
    (others : (b : ℕ) → b < n → b ≢ i → b ≢ j → g b ≤ f b) where
  but_two : (h : ℕ → ℕ) → sum (tab h n) ≡ h i + h j + sum (tab (but j (but i h)) n)
  but_two h =
      let at : but i h j ≡ h j = rw (ne_eqb j i (λ q. apart (sym q))) in
      omega (arith, sum_one h n i hi, sum_one (but i h) n j hj, at)

  rest : (b : ℕ) → b < n → but j (but i g) b ≤ but j (but i f) b
  rest b l = by_cases (eqb b j)
      (λ e. rw e (omega arith))
      (λ e. by_cases (eqb b i) (λ d. rw (e, d) (omega arith)) (λ d. rw (e, d) (others b l (eqb-false b i d) (eqb-false b j e))))

  two_fall : sum (tab g n) + m ≤ sum (tab f n)
  two_fall = omega (arith, but_two f, but_two g, sum_le (but j (but i f)) (but j (but i g)) n rest, two)

-- A VOLUME IS GIVEN: how many volumes blocks have before and after it, the donor two more than the recipient at least
pub record Given (cs ds : List ℕ) : Type 0 where
  pub was : ℕ → ℕ
  pub now : ℕ → ℕ
  pub size : ℕ
  pub donor : ℕ
  pub recipient : ℕ
  pub before : cs ≡ tab was size
  pub after : ds ≡ tab now size
  pub donor_below : donor < size
  pub recipient_below : recipient < size
  pub apart : donor ≢ recipient
  pub falls : was donor ≡ suc (now donor)
  pub rises : now recipient ≡ suc (was recipient)
  pub stays : (b : ℕ) → b < size → b ≢ donor → b ≢ recipient → was b ≡ now b
  pub two_more : was recipient + 2 ≤ was donor

abbrev pub squares : List ℕ → ℕ
squares cs = sum (map (λ c. c * c) cs)

abbrev pub gaps : List ℕ → ℕ
gaps cs = sum (map (λ c. sum (map (λ d. c - d) cs)) cs)

-- of a table
squares_tab : (f : ℕ → ℕ) (n : ℕ) → squares (tab f n) ≡ sum (tab (λ b. f b * f b) n)
squares_tab f n = ap sum (map_tab (λ c. c * c) f n)

abbrev row : (ℕ → ℕ) → ℕ → ℕ → ℕ
row f n b = sum (tab (λ a. f b - f a) n)

gaps_tab : (f : ℕ → ℕ) (n : ℕ) → gaps (tab f n) ≡ sum (tab (row f n) n)
gaps_tab f n = ap sum (map_tab (λ c. sum (map (λ d. c - d) (tab f n))) f n
    ∙ tab_cong (λ b. sum (map (λ d. f b - d) (tab f n))) (row f n) n (λ b l. ap sum (map_tab (λ d. f b - d) f n)))

-- of the two blocks: the donor has a, then x; the recipient y, then c
square_two : (a x y c : ℕ) → a ≡ suc x → c ≡ suc y → y + 2 ≤ a → x * x + c * c + 2 ≤ a * a + y * y
square_two a x y c p q h = rw (p, q) (omega (arith, p, h))

gap_two : (a x y c : ℕ) → a ≡ suc x → c ≡ suc y → y + 2 ≤ a → ((x - x) + (c - x)) + ((x - c) + (c - c)) + 2 ≤ ((a - a) + (y - a)) + ((a - y) + (y - y))
gap_two a x y c p q h =
    let first : (x - x) + (c - x) ≡ 0 = omega arith in
    let second : (x - c) + (c - c) + 2 ≤ a - y = omega arith in
    omega (arith, first, second)

-- to and from a block that has s, then t
gap_from : (a x y c : ℕ) → a ≡ suc x → c ≡ suc y → y + 2 ≤ a → (s t : ℕ) → s ≡ t → (x - t) + (c - t) ≤ (a - s) + (y - s)
gap_from a x y c p q h s t e = rw (p, q, e) (omega (arith, p, h))

gap_to : (a x y c : ℕ) → a ≡ suc x → c ≡ suc y → y + 2 ≤ a → (s t : ℕ) → s ≡ t → (t - x) + (t - c) ≤ (s - a) + (s - y)
gap_to a x y c p q h s t e = rw (p, q, e) (omega (arith, p, h))

module _ {cs ds : List ℕ} (G : Given cs ds) where
  abbrev f : ℕ → ℕ
  f = G.was

  abbrev g : ℕ → ℕ
  g = G.now

  abbrev n : ℕ
  n = G.size

  abbrev i : ℕ
  i = G.donor

  abbrev j : ℕ
  j = G.recipient

  -- two_fall, of the two blocks
  fall : (F H : ℕ → ℕ) (m : ℕ) → H i + H j + m ≤ F i + F j → ((b : ℕ) → b < n → b ≢ i → b ≢ j → H b ≤ F b) → sum (tab H n) + m ≤ sum (tab F n)
  fall F H m two others = two_fall F H n i j m G.donor_below G.recipient_below G.apart two others

  pub squares_fall : squares ds + 2 ≤ squares cs
  squares_fall =
      let w = fall (λ b. f b * f b) (λ b. g b * g b) 2 (square_two (f i) (g i) (f j) (g j) G.falls G.rises G.two_more)
      (λ b l p q. let e = G.stays b l p q in rw e (omega arith)) in
      let a = ap squares G.after ∙ squares_tab g n in
      let b = ap squares G.before ∙ squares_tab f n in
      omega (arith, w, a, b)

  other_rows : (b : ℕ) → b < n → b ≢ i → b ≢ j → row g n b ≤ row f n b
  other_rows b l p q =
      let e = G.stays b l p q in
      let two = gap_to (f i) (g i) (f j) (g j) G.falls G.rises G.two_more (f b) (g b) e in
      let w = fall (λ a. f b - f a) (λ a. g b - g a) 0 (omega (arith, two)) (λ a k s t. let d = G.stays a k s t in omega (arith, e, d)) in
      omega (arith, w)

  two_rows : row g n i + row g n j + 2 ≤ row f n i + row f n j
  two_rows =
      let w = fall (λ a. (f i - f a) + (f j - f a)) (λ a. (g i - g a) + (g j - g a)) 2 (gap_two (f i) (g i) (f j) (g j) G.falls G.rises G.two_more)
      (λ a k s t. gap_from (f i) (g i) (f j) (g j) G.falls G.rises G.two_more (f a) (g a) (G.stays a k s t)) in
      omega (arith, w, sum_add (λ a. f i - f a) (λ a. f j - f a) n, sum_add (λ a. g i - g a) (λ a. g j - g a) n)

  pub gaps_fall : gaps ds + 2 ≤ gaps cs
  gaps_fall =
      let w = fall (row f n) (row g n) 2 two_rows other_rows in
      let a = ap gaps G.after ∙ gaps_tab g n in
      let b = ap gaps G.before ∙ gaps_tab f n in
      omega (arith, w, a, b)

-- two counts that differ by two
at_most_sum : (F : ℕ → ℕ) (cs : List ℕ) (i : ℕ) → i < length cs → F (get_or cs i 0) ≤ sum (map F cs)
at_most_sum F [] i h = absurd (omega arith)
at_most_sum F (c ∷ cs) zero h = omega arith
at_most_sum F (c ∷ cs) (suc i) h = omega (arith, at_most_sum F cs i (omega arith))

pub gaps_two : (cs : List ℕ) (i j : ℕ) → i < length cs → j < length cs → get_or cs j 0 + 2 ≤ get_or cs i 0 → 2 ≤ gaps cs
gaps_two cs i j hi hj h =
    let a = at_most_sum (λ c. sum (map (λ d. c - d) cs)) cs i hi in
    let b = at_most_sum (λ d. get_or cs i 0 - d) cs j hj in
    omega (arith, a, b, h)

-- FEW DIFFERENCES: 2,048 volumes in a block at the most
one_gap : (x y : ℕ) → x ≤ 2048 → 2048 * (x - y) ≤ x * (2048 - y)
one_gap x y h = by_cases (leb y x)
    (λ l. let k = leb-true y x l in
    let p = split y (2048 - y) (x - y) (omega (arith, h, k)) in
    let q = split_left y (x - y) x (2048 - y) (omega (arith, k)) in
    let c = mul_comm (x - y) (2048 - y) in
    omega (arith, p, q, c, mul-le-mul_left y (smaller x y h)))
    (λ l. omega (arith, leb-false y x l))
  where
    smaller : (x y : ℕ) → x ≤ 2048 → x - y ≤ 2048 - y
    smaller x y h = omega arith

    split : (y z e : ℕ) → y + z ≡ 2048 → 2048 * e ≡ y * e + z * e
    split y z e p = rw (sym p) (omega arith)

    split_left : (y e x z : ℕ) → x ≡ y + e → x * z ≡ y * z + e * z
    split_left y e x z p = rw p (omega arith)

-- a product is greatest where both are half of the sum
product_most : (h x y : ℕ) → x + y ≤ h + h → x * y ≤ h * h
product_most h x y l = by_cases (leb x h)
    (λ e. let k = leb-true x h e in lower x (h - x) h (omega (arith, k)) y (omega (arith, k, l)))
    (λ e. let k = leb-false x h e in let c = mul_comm x y in omega (arith, c, lower y (h - y) h (omega (arith, k, l)) x (omega (arith, k, l))))
  where
    lower : (x e h : ℕ) → h ≡ x + e → (y : ℕ) → y ≤ x + e + e → x * y ≤ h * h
    lower x e h p y l = rw p (let a = mul-le-mul_left x l in omega (arith, a))

together : (f : ℕ → ℕ) (n : ℕ) → ((b : ℕ) → b < n → f b ≤ 2048) → sum (tab f n) + sum (tab (λ b. 2048 - f b) n) ≡ 2048 * n
together f zero h = refl
together f (suc n) h = omega (arith, h 0 (omega arith), together (λ b. f (suc b)) n (λ b l. h (suc b) (omega arith)))

module _ (f : ℕ → ℕ) (n : ℕ) (few : n ≤ 16) (small : (b : ℕ) → b < n → f b ≤ 2048) where
  abbrev missing : ℕ
  missing = sum (tab (λ b. 2048 - f b) n)

  one_row : (b : ℕ) → b < n → 2048 * row f n b ≤ missing * f b
  one_row b l =
      let w = sum_le (λ a. f b * (2048 - f a)) (λ a. 2048 * (f b - f a)) n (λ a k. one_gap (f b) (f a) (small b l)) in
      let p = sum_times 2048 (λ a. f b - f a) n in
      let q = sum_times (f b) (λ a. 2048 - f a) n in
      let c = mul_comm (f b) missing in
      omega (arith, w, p, q, c)

  pub gaps_few : gaps (tab f n) ≤ 131072
  gaps_few =
      let w = sum_le (λ b. missing * f b) (λ b. 2048 * row f n b) n one_row in
      let p = sum_times 2048 (row f n) n in
      let q = sum_times missing f n in
      let m = product_most 16384 missing (sum (tab f n)) (let t = together f n small in omega (arith, t, few)) in
      let e = gaps_tab f n in
      omega (arith, w, p, q, m, e)
