-- Item 12, proved of the paper's comparison. Assumes nothing.
use Rattle.std.specs.Prelude.{◌≡◌, ◌↔◌, ◌≢◌, Bool, true, false, cond, not, ◌&&◌, List, ℕ, ◌<◌, T, ltb, length, get_or}
use Rattle.std.proofs.Math.Path.{refl}
use Rattle.std.proofs.Common.{sym, ◌∙◌, ap, arith, ltb-true, lt-ltb}
use Rattle.std.proofs.Math.Bool.{and-eq-true_iff}
use Rattle.std.proofs.Math.Option.{Option, none, some}
use Rattle.basic_laws.specs.Bools.{clash}
use Rattle.paper.specs.Basics.{sequence_places}
use Rattle.paper.specs.Schema.{Schema}
use Rattle.paper.specs.Table.{proper}
use Rattle.paper.specs.Rules.{Rules, element_at, of_schema, of_table}
use Rattle.paper.specs.Inclusion.{Takes, ShortestOf, takes, shortest_lost, Compared, refused, answered, comparable, comparing, compare}
use Rattle.inclusion_laws.specs.Words.{Answer}
use Rattle.inclusion_laws.proofs.Theorems.{right, takes_means}
use Rattle.promises.specs.Calls.{papers}
use Rattle.promises.proofs.ByTable.{table_proper, table_reads}
use Rattle.promises.specs.Inclusion.{InOrder, Told, CompareDeterminate, CompareKeeps, CompareOrder, CompareTells, CompareByExpressions, CompareMeans}

pub determinate : CompareDeterminate papers
determinate i o p a b = a ∙ sym b

-- ---- the numbers in order

-- the number of an outcome that is refused with k unless c holds
unless_iff : (c : Bool) {P : Type 0} → (c ≡ true) ↔ P → (k n : ℕ) → n ≢ k → (cond (not c) k n ≡ k) ↔ ¬ P
unless_iff true i k n h = (λ e. absurd (h e), λ f. absurd (f (i.0 refl)))
unless_iff false i k n h = (λ e p. clash (i.1 p) refl, λ f. refl)

both_iff : (a b : Bool) {P Q : Type 0} → (a ≡ true) ↔ P → (b ≡ true) ↔ Q → (a && b ≡ true) ↔ (P × Q)
both_iff a b i j = let (to, of) = and-eq-true_iff a b in (λ e. let (p, q) = to e in (i.0 p, j.0 q), λ (p, q). of (i.1 p, j.1 q))

same : {P : Type 0} → P ↔ P
same = (λ p. p, λ p. p)

below_iff : (m n : ℕ) → (ltb m n ≡ true) ↔ (m < n)
below_iff m n = (ltb-true m n, lt-ltb m n)

-- the number by the tests
abbrev roomed : Bool → ℕ
roomed f = cond f 5 0

abbrev kinded : (d f : Bool) → ℕ
kinded d f = cond (not d) 16 (roomed f)

abbrev placed : (c d f : Bool) → ℕ
placed c d f = cond (not c) 6 (kinded d f)

module _ (old new : List ℕ) (e : ℕ) (s : List ℕ) where
  abbrev inside : Bool
  inside = ltb e (get_or old 0 0) && ltb e (get_or new 0 0)

  abbrev kinds : Bool
  kinds = comparable (of_table old) e && comparable (of_table new) e

  abbrev short : Bool
  short = ltb (length s) sequence_places

  -- the outcome by the tests
  abbrev outcome : (a b c d f : Bool) → Compared
  outcome a b c d f =
      cond (not a) (refused 13 s) (cond (not b) (refused 13 s) (cond (not c) (refused 6 s) (cond (not d) (refused 16 s)
      (cond f (refused 5 s) (answered (shortest_lost (of_table old) (of_table new) e) s)))))

  by_tests : compare old new e s ≡ outcome (proper old) (proper new) inside kinds short
  unfolding compare comparing
  by_tests = refl

  answered_zero : (x : Option (List ℕ)) → (answered x s).number ≡ 0
  answered_zero none = refl
  answered_zero (some w) = refl

  number_by : (a b c d f : Bool) → (outcome a b c d f).number ≡ cond (not (a && b)) 13 (placed c d f)
  number_by false b c d f = refl
  number_by true false c d f = refl
  number_by true true false d f = refl
  number_by true true true false f = refl
  number_by true true true true true = refl
  number_by true true true true false = answered_zero (shortest_lost (of_table old) (of_table new) e)

  not_13 : (c d f : Bool) → placed c d f ≢ 13
  not_13 false d f = λ e. omega arith
  not_13 true false f = λ e. omega arith
  not_13 true true true = λ e. omega arith
  not_13 true true false = λ e. omega arith

  not_6 : (d f : Bool) → kinded d f ≢ 6
  not_6 false f = λ e. omega arith
  not_6 true true = λ e. omega arith
  not_6 true false = λ e. omega arith

  not_16 : (f : Bool) → roomed f ≢ 16
  not_16 true = λ e. omega arith
  not_16 false = λ e. omega arith

  room_iff : (f : Bool) → short ≡ f → (roomed f ≡ 5) ↔ (length s < sequence_places)
  room_iff true t = (λ e. ltb-true (length s) sequence_places t, λ l. refl)
  room_iff false t = (λ e. absurd (omega arith), λ l. clash (lt-ltb (length s) sequence_places l) t)

  in_order : InOrder old new e s (compare old new e s).number
  in_order = rw (by_tests, number_by (proper old) (proper new) inside kinds short) (record {
    table = unless_iff (proper old && proper new) (both_iff (proper old) (proper new) same same) 13 (placed inside kinds short) (not_13 inside kinds short);
    element = λ (p, q). rw (p, q) (unless_iff inside (both_iff (ltb e (get_or old 0 0)) (ltb e (get_or new 0 0)) (below_iff e (get_or old 0 0)) (below_iff e (get_or new 0 0))) 6 (kinded kinds short) (not_6 kinds short));
    kind = λ (p, q) (h, k). rw (p, q, lt-ltb e (get_or old 0 0) h, lt-ltb e (get_or new 0 0) k)
        (unless_iff kinds (both_iff (comparable (of_table old) e) (comparable (of_table new) e) same same) 16 (roomed short) (not_16 short));
    room = λ (p, q) (h, k) (c, d). rw (p, q, lt-ltb e (get_or old 0 0) h, lt-ltb e (get_or new 0 0) k, c, d) (room_iff short refl);
  })

  -- ---- refusals

  abbrev Kept : Compared → Type 0
  Kept o = o.number ≢ 0 → (o.takes_all ≡ 0) × (o.len ≡ 0) × (o.buffer ≡ s)

  kept : (a b c d f : Bool) → Kept (outcome a b c d f)
  kept false b c d f n = (refl, refl, refl)
  kept true false c d f n = (refl, refl, refl)
  kept true true false d f n = (refl, refl, refl)
  kept true true true false f n = (refl, refl, refl)
  kept true true true true true n = (refl, refl, refl)
  kept true true true true false n = absurd (n (answered_zero (shortest_lost (of_table old) (of_table new) e)))

  -- ---- the answer

  -- where nothing is refused
  pub record Reached : Type 0 where
    pub old_proper : proper old ≡ true
    pub new_proper : proper new ≡ true
    pub in_old : e < get_or old 0 0
    pub in_new : e < get_or new 0 0
    pub is : compare old new e s ≡ answered (shortest_lost (of_table old) (of_table new) e) s

  reached : (compare old new e s).number ≡ 0 → Reached
  reached z = go (proper old) (proper new) inside kinds short refl refl refl by_tests
    where
      none_given : {k : ℕ} → compare old new e s ≡ refused k s → k ≢ 0 → Reached
      none_given d n = absurd (n (sym (ap (λ (o : Compared). o.number) d) ∙ z))

      go : (a b c d f : Bool) → proper old ≡ a → proper new ≡ b → inside ≡ c → compare old new e s ≡ outcome a b c d f → Reached
      go false b c d f p q h i = none_given i (λ k. omega arith)
      go true false c d f p q h i = none_given i (λ k. omega arith)
      go true true false d f p q h i = none_given i (λ k. omega arith)
      go true true true false f p q h i = none_given i (λ k. omega arith)
      go true true true true true p q h i = none_given i (λ k. omega arith)
      go true true true true false p q h i =
          let (l, m) = (and-eq-true_iff (ltb e (get_or old 0 0)) (ltb e (get_or new 0 0))).0 h in
          record { old_proper = p; new_proper = q; in_old = ltb-true e (get_or old 0 0) l; in_new = ltb-true e (get_or new 0 0) m; is = i }

-- one test holds and the other does not
lost_iff : (a b : Bool) → (a && not b ≡ true) ↔ (T a × ¬ T b)
lost_iff true true = (λ e. clash e refl, λ (t, n). absurd (n tt))
lost_iff true false = (λ e. (tt, λ t. t), λ t. refl)
lost_iff false b = (λ e. clash e refl, λ (t, n). absurd t)

-- the shortest of equal sequences
shortest_iff : {L M : List ℕ → Type 0} {w : List ℕ} → ((v : List ℕ) → L v ↔ M v) → ShortestOf L w → ShortestOf M w
shortest_iff {w = w} i p = record {
  is_one = (i w).0 p.is_one;
  shortest = λ v m. p.shortest v ((i v).1 m);
  lowest = λ v m. p.lowest v ((i v).1 m);
}

-- an answer that is right tells what is promised
module _ (a b : List ℕ → Bool) (s : List ℕ) where
  answer_tells : (x : Option (List ℕ)) → Answer sequence_places (λ w. a w && not (b w)) x → Told (λ w. T (a w)) (λ w. T (b w)) s (answered x s)
  answer_tells none r = record {
    yes_exactly = (λ z w t. held (a w) (b w) t (r w), λ f. refl);
    nothing_written = λ z. (refl, refl);
    otherwise = λ n. absurd (n refl);
  }
    where
      held : (c d : Bool) → T c → (c && not d ≡ true → ⊥) → T d
      held false d t n = elim t [ ]
      held true true t n = tt
      held true false t n = absurd (n refl)
  answer_tells (some w) (p, l) = record {
    yes_exactly = (λ z. absurd (omega arith), λ f. let (t, n) = (lost_iff (a w) (b w)).0 p.is_one in absurd (n (f w t)));
    nothing_written = λ z. absurd (omega arith);
    otherwise = λ n. (refl, record { w = w; shortest_lost_lem = shortest_iff (λ v. lost_iff (a v) (b v)) p; length_told = refl; short = l; written = refl });
  }

-- contents that take the same sequences are told of alike
told_iff : {P Q L M : List ℕ → Type 0} {s : List ℕ} {o : Compared} → ((w : List ℕ) → P w ↔ L w) → ((w : List ℕ) → Q w ↔ M w) → Told P Q s o → Told L M s o
told_iff i j t = record {
  yes_exactly = (λ z w u. (j w).0 (t.yes_exactly.0 z w ((i w).1 u)), λ f. t.yes_exactly.1 (λ w p. (j w).1 (f w ((i w).0 p))));
  nothing_written = t.nothing_written;
  otherwise = λ n. let (z, r) = t.otherwise n in (
    z,
    record {
      w = r.w;
      shortest_lost_lem = shortest_iff (λ v. (λ (p, q). ((i v).0 p, λ x. q ((j v).1 x)), λ (p, q). ((i v).1 p, λ x. q ((j v).0 x)))) r.shortest_lost_lem;
      length_told = r.length_told;
      short = r.short;
      written = r.written;
    },
  );
}

-- what is read as the expressions are takes what they mean
read_takes : (s : Schema) (R : Rules) → R ≡ of_schema s → (e : ℕ) (w : List ℕ) → T (takes R e w) ↔ Takes (element_at s e).content w
read_takes s R i e w = rw i (takes_means s e w)

-- ---- what is promised

pub keeps : CompareKeeps papers
keeps old new e s o c n =
    let k : Kept old new e s o = rw (c, by_tests old new e s) (kept old new e s (proper old) (proper new) (inside old new e s) (kinds old new e s) (short old new e s)) in
    k n

pub order : CompareOrder papers
order old new e s o c = rw c (in_order old new e s)

pub tells : CompareTells papers
tells old new e s o c z =
    let r = reached old new e s (sym (ap (λ (x : Compared). x.number) c) ∙ z) in
    rw (c ∙ r.is) (answer_tells (takes (of_table old) e) (takes (of_table new) e) s (shortest_lost (of_table old) (of_table new) e)
    (right old new e r.old_proper r.new_proper r.in_old r.in_new))

pub by_expressions : CompareByExpressions papers
unfolding compare
by_expressions s t old new a b e buffer o c =
    c ∙ rw (table_proper s old a, table_proper t new b, table_reads s old a, table_reads t new b)

pub means : CompareMeans papers
means s t old new a b e buffer o c z =
    told_iff (read_takes s (of_table old) (table_reads s old a) e) (read_takes t (of_table new) (table_reads t new b) e) (tells old new e buffer o c z)
