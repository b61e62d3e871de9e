-- The translator: every answer is a number of the paper. Assumes nothing.
use Rattle.std.specs.Prelude.{◌≡◌, refl, Bool, true, false, cond, ◌&&◌, ◌||◌, List, [], ◌∷◌, ℕ, zero, suc, ◌+◌, ◌-◌, T, leb, eqb, length}
use Rattle.std.proofs.Math.Option.{Option, none, some}
use Rattle.paper.specs.Basics.{most_number, most_elements, most_names, most_attributes, between, elem}
use Rattle.paper.specs.Files.{Front, broken, got, front}
use Rattle.paper.specs.Expressions.{Expr, count}
use Rattle.paper.specs.Sets.{ambiguous}
use Rattle.paper.specs.Schema.{most_symbols, expr_of, fixed_in, model, Schema, Parsed, stop, ok, Reader, pure, refuse, onward, valued, number, numbers, modelled, content_as, kind_after, most_status, value_after, attributes_from, element, elements_of, finished, schema_of}
use Rattle.paper.specs.Table.{table_length, translated, translate}
use Rattle.paper.specs.Answers.{Answers, translator_answers}
use Rattle.paper.specs.Calls.{Translates}
use Rattle.answer_laws.specs.Translator.{Stops}

module _ {A B : Type 0} where
  then_stops : (m : Parsed A) (f : A → Reader B) → Stops m → ((a : A) (s : List ℕ) → Stops (f a s)) → Stops (onward m f)
  then_stops (stop k) f h g = h
  then_stops (ok a s) f h g = g a s

number_stops : (lo hi : ℕ) (s : List ℕ) → Stops (number lo hi s)
unfolding number
number_stops lo hi s = go (front s)
  where
    in_range : (b : Bool) (n : ℕ) (r : List ℕ) → Stops (cond b (ok n r) (stop 2))
    in_range true n r = tt
    in_range false n r = tt

    go : (f : Front) → Stops (valued lo hi f)
    go broken = tt
    go (got n r) = in_range (between lo hi n) n r

numbers_stop : (n lo hi : ℕ) (s : List ℕ) → Stops (numbers n lo hi s)
numbers_stop zero lo hi s = tt
numbers_stop (suc n) lo hi s =
    then_stops (number lo hi s) _ (number_stops lo hi s)
    (λ x t. then_stops (numbers n lo hi t) _ (numbers_stop n lo hi t) (λ xs u. tt))

modelled_stops : (o : Option Expr) (s : List ℕ) → Stops (modelled o s)
modelled_stops none s = tt
modelled_stops (some e) s = go (leb (count e) most_names) (ambiguous e)
  where
    go : (a b : Bool) → Stops (cond a (cond b (refuse 3) (pure (model e))) (refuse 2) s)
    go true true = tt
    go true false = tt
    go false b = tt

content_stops : (E k : ℕ) (s : List ℕ) → Stops (content_as E k s)
content_stops E zero s = tt
content_stops E (suc zero) s = tt
content_stops E (suc (suc k)) s =
    then_stops (number 1 most_symbols s) _ (number_stops 1 most_symbols s)
    (λ n t. then_stops (numbers n 0 (4 + E) t) _ (numbers_stop n 0 (4 + E) t) (λ l u. modelled_stops (expr_of l) u))

kind_stops : (had : Bool) (s : List ℕ) → Stops (kind_after had s)
kind_stops had s = then_stops (number 0 3 s) _ (number_stops 0 3 s) (λ k t. go (had && eqb k 1) k t)
  where
    go : (b : Bool) (k : ℕ) (t : List ℕ) → Stops (cond b (refuse 2) (pure k) t)
    go true k t = tt
    go false k t = tt

value_stops : (status : ℕ) (s : List ℕ) → Stops (value_after status s)
value_stops status s = go (eqb status 2)
  where
    go : (b : Bool) → Stops (cond b (number 0 most_number) (pure 0) s)
    go true = number_stops 0 most_number s
    go false = tt

attributes_stop : (n low : ℕ) (had : Bool) (met : ℕ) (s : List ℕ) → Stops (attributes_from n low had met s)
attributes_stop zero low had met s = tt
attributes_stop (suc n) low had met s =
    then_stops (number low (most_attributes - 1) s) _ (number_stops low (most_attributes - 1) s)
    (λ a t. then_stops (kind_after had t) _ (kind_stops had t)
    (λ k u. then_stops (number 0 (most_status k met) u) _ (number_stops 0 (most_status k met) u)
    (λ st v. then_stops (value_after st v) _ (value_stops st v)
    (λ x w. then_stops (attributes_from n (suc a) (had || eqb k 1) (met + cond (eqb st 2) 1 0) w) _
    (attributes_stop n (suc a) (had || eqb k 1) (met + cond (eqb st 2) 1 0) w) (λ xs o. tt)))))

element_stops : (E met : ℕ) (s : List ℕ) → Stops (element E met s)
element_stops E met s =
    then_stops (number 0 2 s) _ (number_stops 0 2 s)
    (λ k t. then_stops (content_as E k t) _ (content_stops E k t)
    (λ c u. then_stops (number 0 most_attributes u) _ (number_stops 0 most_attributes u)
    (λ n v. then_stops (attributes_from n 0 false met v) _ (attributes_stop n 0 false met v) (λ l w. tt))))

elements_stop : (n E met : ℕ) (s : List ℕ) → Stops (elements_of n E met s)
elements_stop zero E met s = tt
elements_stop (suc n) E met s =
    then_stops (element E met s) _ (element_stops E met s)
    (λ x t. then_stops (elements_of n E (met + fixed_in x.attributes) t) _ (elements_stop n E (met + fixed_in x.attributes) t) (λ xs u. tt))

finished_stops : (x : Schema) (s : List ℕ) → Stops (finished x s)
finished_stops x [] = tt
finished_stops x (b ∷ s) = tt

pub schema_stops : (file : List ℕ) → Stops (schema_of file)
unfolding schema_of
schema_stops file =
    then_stops (number 1 most_elements file) _ (number_stops 1 most_elements file)
    (λ E t. then_stops (number 0 (E - 1) t) _ (number_stops 0 (E - 1) t)
    (λ root u. then_stops (elements_of E E 0 u) _ (elements_stop E E 0 u)
    (λ l v. finished_stops (record { root = root; elements = l }) v)))

pub translate_answers : (file table : List ℕ) (o : ℕ × List ℕ) → Translates file table o → Answers translator_answers o.0 0
unfolding translate
translate_answers file table o e = by_length (eqb (length table) table_length) e
  where
    stopped : (k : ℕ) → T (elem k (1 ∷ 2 ∷ 3 ∷ [])) → T (elem k translator_answers)
    stopped k t = go (eqb k 0) (eqb k 1) (eqb k 2) (eqb k 3) (eqb k 13) t
      where
        go : (a b c d x : Bool) → T (b || (c || (d || false))) → T (a || (b || (c || (d || (x || false)))))
        go true b c d x t = tt
        go false true c d x t = tt
        go false false true d x t = tt
        go false false false false x t = elim t [ ]
        go false false false true x t = tt

    by_file : (p : Parsed Schema) → Stops p → o ≡ translated p table → Answers translator_answers o.0 0
    by_file (stop k) h e = let n : o.0 ≡ k = cc in record { one_of = rw n (stopped k h); no_place = λ c. refl }
    by_file (ok s r) h e = let n : o.0 ≡ 0 = cc in record { one_of = rw n tt; no_place = λ c. refl }

    by_length : (b : Bool) → o ≡ cond b (translated (schema_of file) table) (13, table) → Answers translator_answers o.0 0
    by_length true e = by_file (schema_of file) (schema_stops file) e
    by_length false e = let n : o.0 ≡ 13 = cc in record { one_of = rw n tt; no_place = λ c. refl }
