-- The smallest readers go on as before when more text follows: words, white space, names, suffixes, kinds, comments. Assumes nothing.
use Rattle.std.specs.Prelude.{◌≡◌, refl, ◌≢◌, Bool, true, false, cond, List, [], ◌∷◌, ◌++◌, ℕ, zero, suc, ◌<◌, eqb, length}
use Rattle.std.proofs.Common.{ap, subst, sym, ◌∙◌, append-nil, arith}
use Rattle.paper.specs.Dtd.Letters.{is_white, is_first, is_more, run, past, first_of_two, first_of_three, first_of_four, hyphen, word_cdata, word_id, word_required, word_implied}
use Rattle.paper.specs.Dtd.Declarations.{once, maybe, many, several, Kind, cdata, id, idref, idrefs, required, implied}
use Rattle.paper.specs.Dtd.Grammar.{kind_word}
use Rattle.paper.specs.Dtd.Readers.{Read, stop, ok, Reader, outside, onward, tested}
use Rattle.paper.specs.Dtd.Readers as R
use Rattle.dtd_laws.specs.Exact.{never}
use Rattle.dtd_laws.specs.Leaves.{run_past, behind_less, name_exact}
use Rattle.dtd_laws.specs.Words.{kind_exact}
use Rattle.dtd_laws.specs.Comments.{char_less}
use Rattle.dtd_stays_laws.specs.Stays.{is_name, AtEnd, Under, Settled, up, Grows, Stays, chain, chain_strict, pure_stays, refuse_stays, none_stays, by_front, Lasts}

past_less : (P : ℕ → Bool) (s : List ℕ) → length (past P s) < suc (length s)
past_less P s = let h = behind_less (run P s) (past P s) (run_past P s).0 in omega arith

module _ (x : List ℕ) where
  -- ---- words

  pub literal_stays : {n : ℕ} (l : List ℕ) → Stays x n (R.literal l) (R.literal l)
  literal_stays l = record { grows = λ s h. grow l s; less = λ s. left l s; ends = end l }
    where
      grow : (l s : List ℕ) → Grows x (R.literal l s) (R.literal l (s ++ x))
      grow [] s = λ e. refl
      grow (b ∷ l) [] = λ g. absurd (g.some refl)
      grow (b ∷ l) (c ∷ s) = by (eqb b c) (grow l s)
        where
          by : (y : Bool) → Grows x (R.literal l s) (R.literal l (s ++ x))
              → Grows x (cond y (R.literal l s) (stop outside (c ∷ s))) (cond y (R.literal l (s ++ x)) (stop outside (c ∷ s ++ x)))
          by true g = g
          by false g = λ e. refl

      left : (l s : List ℕ) → Under (R.literal l s) (suc (length s))
      left [] s = omega arith
      left (b ∷ l) [] = tt
      left (b ∷ l) (c ∷ s) = by (eqb b c) (R.literal l s) (left l s)
        where
          by : (y : Bool) (o : Read (Unit {0})) → Under o (suc (length s)) → Under (cond y o (stop outside (c ∷ s))) (suc (suc (length s)))
          by true (stop k t) u = tt
          by true (ok a r) u = omega arith
          by false o u = tt

      end : (l : List ℕ) → AtEnd (R.literal l [])
      end [] = refl
      end (b ∷ l) = refl

  pub mark_strict : (b : ℕ) (s : List ℕ) → Under (R.mark b s) (length s)
  mark_strict b [] = tt
  mark_strict b (c ∷ s) = by (eqb b c)
    where
      by : (y : Bool) → Under (cond y (R.literal [] s) (stop outside (c ∷ s))) (suc (length s))
      by true = omega arith
      by false = tt

  pub byte_stays : {n : ℕ} (P : ℕ → Bool) → Stays x n (R.byte P) (R.byte P)
  byte_stays P = record { grows = λ s h. grow s; less = left; ends = refl }
    where
      grow : (s : List ℕ) → Grows x (R.byte P s) (R.byte P (s ++ x))
      grow [] = λ g. absurd (g.some refl)
      grow (b ∷ s) = by (P b)
        where
          by : (y : Bool) → Grows x (cond y (ok b s) (stop outside (b ∷ s))) (cond y (ok b (s ++ x)) (stop outside (b ∷ s ++ x)))
          by true = λ e. refl
          by false = λ e. refl

      left : (s : List ℕ) → Under (R.byte P s) (suc (length s))
      left [] = tt
      left (b ∷ s) = by (P b)
        where
          by : (y : Bool) → Under (cond y (ok b s) (stop outside (b ∷ s))) (suc (suc (length s)))
          by true = omega arith
          by false = tt

  -- ---- white space and names

  pub past_grows : (P : ℕ → Bool) (s : List ℕ) → past P s ≢ [] → past P (s ++ x) ≡ past P s ++ x
  past_grows P [] e = absurd (e refl)
  past_grows P (b ∷ s) e = by (P b) (past_grows P s) e
    where
      by : (y : Bool) → (past P s ≢ [] → past P (s ++ x) ≡ past P s ++ x) → cond y (past P s) (b ∷ s) ≢ []
          → cond y (past P (s ++ x)) (b ∷ s ++ x) ≡ cond y (past P s) (b ∷ s) ++ x
      by true h e = h e
      by false h e = refl

  run_grows : (P : ℕ → Bool) (s : List ℕ) → past P s ≢ [] → run P (s ++ x) ≡ run P s
  run_grows P [] e = absurd (e refl)
  run_grows P (b ∷ s) e = by (P b) (run_grows P s) e
    where
      by : (y : Bool) → (past P s ≢ [] → run P (s ++ x) ≡ run P s) → cond y (past P s) (b ∷ s) ≢ [] → cond y (b ∷ run P (s ++ x)) [] ≡ cond y (b ∷ run P s) []
      by true h e = ap (λ t. b ∷ t) (h e)
      by false h e = refl

  pub S?_stays : {n : ℕ} → Stays x n R.S? R.S?
  S?_stays = record { grows = λ s h e. ap (ok tt) (past_grows is_white s e); less = past_less is_white; ends = refl }

  pub S_stays : {n : ℕ} → Stays x n R.S R.S
  S_stays = by_front x is_white S?_stays (refuse_stays x)

  longest_stays : {n : ℕ} → Stays x n (λ s. ok (run is_more s) (past is_more s)) (λ s. ok (run is_more s) (past is_more s))
  longest_stays = record { grows = λ s h e. rw (past_grows is_more s e, run_grows is_more s e); less = past_less is_more; ends = refl }

  pub name_stays : {n : ℕ} → Stays x n R.name R.name
  name_stays = by_front x is_first longest_stays (refuse_stays x)

  -- ---- suffixes, kinds, statuses

  pub suffix_stays : {n : ℕ} → Stays x n R.suffix R.suffix
  suffix_stays = record { grows = λ s h. grow s; less = left; ends = refl }
    where
      grow : (s : List ℕ) → Grows x (R.suffix s) (R.suffix (s ++ x))
      grow [] = λ e. absurd (e refl)
      grow (b ∷ s) = by (eqb b 63) (eqb b 42) (eqb b 43)
        where
          by : (y z w : Bool) → Grows x (cond y (ok maybe s) (cond z (ok many s) (cond w (ok several s) (ok once (b ∷ s)))))
              (cond y (ok maybe (s ++ x)) (cond z (ok many (s ++ x)) (cond w (ok several (s ++ x)) (ok once (b ∷ s ++ x)))))
          by true z w = λ e. refl
          by false true w = λ e. refl
          by false false true = λ e. refl
          by false false false = λ e. refl

      left : (s : List ℕ) → Under (R.suffix s) (suc (length s))
      left [] = omega arith
      left (b ∷ s) = by (eqb b 63) (eqb b 42) (eqb b 43)
        where
          by : (y z w : Bool) → Under (cond y (ok maybe s) (cond z (ok many s) (cond w (ok several s) (ok once (b ∷ s))))) (suc (suc (length s)))
          by true z w = omega arith
          by false true w = omega arith
          by false false true = omega arith
          by false false false = omega arith

  module _ {A : Type 0} where
    pub spelled_stays : {n : ℕ} (l : List ℕ) (a : A) → Stays x n (R.spelled l a) (R.spelled l a)
    spelled_stays l a = chain x (literal_stays l) (λ u. pure_stays x a)

    pub whole_stays : {n : ℕ} (l : List ℕ) (a : A) → Stays x n (R.whole l a) (R.whole l a)
    whole_stays l a = chain x (literal_stays l) (λ u. chain x (by_front x is_more (refuse_stays x) (pure_stays x tt)) (λ v. pure_stays x a))

  pub kind_stays : {n : ℕ} → Stays x n R.kind R.kind
  kind_stays =
      by_front x (eqb 67) (whole_stays word_cdata cdata)
      (chain x (literal_stays word_id) (λ u.
      by_front x (eqb 82) (chain x (literal_stays (82 ∷ 69 ∷ 70 ∷ [])) (λ v. by_front x (eqb 83) (whole_stays (83 ∷ []) idrefs) (whole_stays [] idref))) (whole_stays [] id)))

  pub status_stays : {n : ℕ} → Stays x n R.status R.status
  status_stays = chain x (literal_stays (35 ∷ [])) (λ u. by_front x (eqb 82) (spelled_stays word_required required) (spelled_stays word_implied implied))

  -- ---- comments

  char_stays : {n : ℕ} → Stays x n R.char R.char
  char_stays =
      by_front x first_of_two (chain x (byte_stays _) (λ a. byte_stays _))
      (by_front x first_of_three (chain x (byte_stays _) (λ a. chain x (byte_stays _) (λ b. byte_stays _)))
      (by_front x first_of_four (chain x (byte_stays _) (λ a. chain x (byte_stays _) (λ b. chain x (byte_stays _) (λ c. byte_stays _))))
      (byte_stays _)))

  char_strict : (s : List ℕ) → Under (R.char s) (length s)
  char_strict s = by (R.char s) refl
    where
      by : (o : Read ℕ) → R.char s ≡ o → Under o (length s)
      by (stop k t) p = tt
      by (ok a r) p = char_less s p

  pub inside_stays : (n : ℕ) → Stays x n (R.inside n) (R.inside (up x n))
  inside_stays zero = none_stays x
  inside_stays (suc n) =
      by_front x (eqb hyphen)
      (chain_strict x (literal_stays (hyphen ∷ [])) (mark_strict hyphen) (λ u.
      by_front x (eqb hyphen) (literal_stays (45 ∷ 62 ∷ [])) (chain x char_stays (λ c. inside_stays n))))
      (chain_strict x char_stays char_strict (λ c. inside_stays n))

  -- ---- what is read up to the end of the text

  -- it is read with x behind too, if no name goes on there
  abbrev pub Keeps : {A : Type 0} → Reader A → Type 0
  Keeps {A} m = (s : List ℕ) (a : A) → m s ≡ ok a [] → Settled x s → m (s ++ x) ≡ ok a x

  pub keeps_lasts : {A : Type 0} {n : ℕ} {m : Reader A} (P : A → Bool) → Keeps m → Lasts x n m m P
  keeps_lasts P k s a h e f g = (a, x, k s a e g, f)

  pub tested_keeps : {A : Type 0} {m : Reader A} (k : ℕ) (P : A → Bool) → Keeps m → Keeps (tested k P m)
  tested_keeps {A} {m} k P z s a e g = by (m s) refl e
    where
      pick : (b : A) (r : List ℕ) → m s ≡ ok b r → (c : Bool) → P b ≡ c → cond c (ok b r) (stop k s) ≡ ok a [] → tested k P m (s ++ x) ≡ ok a x
      pick b r p true q e =
          let i : b ≡ a = cc in
          let j : r ≡ [] = cc in
          rw (z s a (p ∙ e) g, ← i, q)
      pick b r p false q e = never e

      by : (o : Read A) → m s ≡ o → onward o (λ a r. cond (P a) (ok a r) (stop k s)) ≡ ok a [] → tested k P m (s ++ x) ≡ ok a x
      by (stop j t) p e = never e
      by (ok b r) p e = pick b r p (P b) refl e

  appended : (s n : List ℕ) → s ≡ n ++ [] → s ++ x ≡ n ++ x
  appended s n p = ap (λ t. t ++ x) (p ∙ append-nil n)

  pub name_keeps : Keeps R.name
  name_keeps s n e g =
      let (p, q, f) = (name_exact {n = 0}).gives {a = n} {s = s} {r = []} e in
      (name_exact {n = length (s ++ x)}).takes {a = n} (omega arith)
      (appended s n p, q, g.no_longer (subst (λ t. is_name t ≡ true) (sym (p ∙ append-nil n)) q))

  kind_name : (k : Kind) → is_name (kind_word k) ≡ true
  kind_name cdata = refl
  kind_name id = refl
  kind_name idref = refl
  kind_name idrefs = refl

  pub kind_keeps : Keeps R.kind
  kind_keeps s k e g =
      let (p, f) = (kind_exact {n = 0}).gives {a = k} {s = s} {r = []} e in
      (kind_exact {n = length (s ++ x)}).takes {a = k} (omega arith)
      (appended s (kind_word k) p, g.no_longer (subst (λ t. is_name t ≡ true) (sym (p ∙ append-nil (kind_word k))) (kind_name k)))
