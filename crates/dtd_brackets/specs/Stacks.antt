-- The brackets that are open at a place of a model, the innermost first, each with its separator. Assumes nothing.
use Rattle.std.specs.Prelude.{◌≡◌, refl, Bool, true, false, cond, List, [], ◌∷◌, ◌++◌, ℕ, suc, ◌+◌, ◌≤◌, ◌<◌, eqb, length, take, drop, get_or}
use Rattle.std.proofs.Common.{◌∙◌, arith, eqb-true, length-drop, take-suc, drop-cons, length-take-le}
use Rattle.std.proofs.Math.Bool.{and-eq-true_iff}
use Rattle.std.proofs.Math.Seq.{slice, slice_empty}
use Rattle.std.proofs.lemmas.List.{drop-append-le}
use Rattle.paper.specs.Basics.{all}
use Rattle.paper.specs.Dtd.Letters.{is_white, is_more, past, run, opening, closing, comma, bar}
use Rattle.basic_laws.specs.Bools.{clash, fails}
use Rattle.dtd_laws.specs.Leaves.{run_past}
use Rattle.dtd_model_laws.specs.Walks.{Joint, free, commas, bars, joint_of}

-- a separator in the innermost bracket
abbrev pub join : Joint → List Joint → List Joint
join free l = l
join commas [] = []
join commas (k ∷ l) = commas ∷ l
join bars [] = []
join bars (k ∷ l) = bars ∷ l

-- what a byte makes of the brackets; what bytes make of them
abbrev pub passed : ℕ → List Joint → List Joint
passed c l = cond (eqb c opening) (free ∷ l) (cond (eqb c closing) (drop 1 l) (join (joint_of c) l))

abbrev pub scan : List ℕ → List Joint → List Joint
scan [] l = l
scan (c ∷ s) l = scan s (passed c l)

scan_snoc : (s : List ℕ) (c : ℕ) (l : List Joint) → scan (s ++ (c ∷ [])) l ≡ passed c (scan s l)
scan_snoc [] c l = refl
scan_snoc (x ∷ s) c l = scan_snoc s c (passed x l)

module _ (text : List ℕ) (from : ℕ) where
  -- those that are open at i, of the model that begins at `from`
  unfoldable pub open_at : ℕ → List Joint
  open_at i = scan (slice from i text) []

  pub open_none : open_at from ≡ []
  unfolding open_at
  open_none = rw (slice_empty from text)

  slice_next : (i : ℕ) → from ≤ i → i < length text → slice from (suc i) text ≡ slice from i text ++ (get_or text i 0 ∷ [])
  slice_next i h k =
      rw (take-suc text i 0 k) (drop-append-le from (take i text) (get_or text i 0 ∷ []) (rw (length-take-le i text (omega arith)) h))

  pub open_next : (i : ℕ) → from ≤ i → i < length text → open_at (suc i) ≡ passed (get_or text i 0) (open_at i)
  unfolding open_at
  open_next i h k = rw (slice_next i h k) (scan_snoc (slice from i text) (get_or text i 0) [])

  -- ---- bytes that leave the brackets as they are

  module _ (P : ℕ → Bool) (still : (c : ℕ) → P c ≡ true → (l : List Joint) → passed c l ≡ l) where
    pub open_still : (w : List ℕ) (i j : ℕ) → from ≤ i → i ≤ length text → j ≤ length text → all P w ≡ true → drop i text ≡ w ++ drop j text
        → (i + length w ≡ j) × (open_at j ≡ open_at i)
    open_still [] i j h k m q e =
        let d : length (drop i text) ≡ length (drop j text) = rw e in
        let f : i ≡ j = omega (arith, length-drop i text, length-drop j text) in
        (omega arith, rw f)
    open_still (c ∷ w) i j h k m q e =
        let d : length (drop i text) ≡ suc (length (w ++ drop j text)) = rw e in
        let f : i < length text = omega (arith, length-drop i text) in
        let g = drop-cons text i 0 f in
        let x : get_or text i 0 ≡ c = cc in
        let y : drop (suc i) text ≡ w ++ drop j text = cc in
        let (u, v) = (and-eq-true_iff (P c) (all P w)).0 q in
        let (n, o) = open_still w (suc i) j (omega arith) (omega arith) m v y in
        (omega arith, o ∙ open_next i h f ∙ rw x (still c u (open_at i)))

-- none of the four bytes
module _ (P : ℕ → Bool) (o : P opening ≡ false) (c : P closing ≡ false) (m : P comma ≡ false) (b : P bar ≡ false) where
  other : (x : ℕ) → P x ≡ true → (y : ℕ) → P y ≡ false → eqb x y ≡ false
  other x p y q = fails (eqb x y) (λ e. clash p (rw (eqb-true x y e) q))

  pub untouched : (x : ℕ) → P x ≡ true → (l : List Joint) → passed x l ≡ l
  untouched x p l = rw (other x p opening o, other x p closing c, other x p comma m, other x p bar b)

pub white_still : (c : ℕ) → is_white c ≡ true → (l : List Joint) → passed c l ≡ l
white_still = untouched is_white refl refl refl refl

pub more_still : (c : ℕ) → is_more c ≡ true → (l : List Joint) → passed c l ≡ l
more_still = untouched is_more refl refl refl refl

-- past white space
pub white_open : (text : List ℕ) (from i j : ℕ) → from ≤ i → i ≤ length text → j ≤ length text → drop j text ≡ past is_white (drop i text)
    → (i ≤ j) × (open_at text from j ≡ open_at text from i)
white_open text from i j h k m e =
    let (p, q, r) = run_past is_white (drop i text) in
    let (u, v) = open_still text from is_white white_still (run is_white (drop i text)) i j h k m q (rw e p) in
    (omega arith, v)
