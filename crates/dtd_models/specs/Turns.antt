-- Turns of the walk along a model, one law for each way out. Assumes nothing.
use Rattle.std.specs.Prelude.{◌≡◌, refl, Bool, true, false, Ok, Err, List, [], ◌∷◌, ℕ, suc, ◌+◌, ◌≤◌, eqb, length, drop}
use Rattle.std.proofs.Common.{sym, ap, ◌∙◌, arith, add-one}
use Rattle.paper.specs.declared.Refusal.TheVariants.{DtdText}
use Rattle.paper.specs.Dtd.Letters.{Name, is_white, begins, past, opening}
use Rattle.paper.specs.Dtd.Declarations.{Part}
use Rattle.paper.specs.Dtd.Readers.{Read, stop, ok, onward, outside}
use Rattle.dtd_laws.specs.Leaves.{run_past}
use Rattle.paper.specs.Codes.{number_of}
use Rattle.dtd_words.specs.declared.Fault.{Fault}
use Rattle.dtd_words.specs.Places.{At}
use Rattle.dtd_model_laws.specs.Turns.{groups}
use Rattle.dtd_model_laws.specs.Sizes.{symbols, words, symbols_many, names_many}
use Rattle.dtd_model_laws.specs.Walks.{Joint, free, after, counted, begins_walk, no_model_lem}
use Rattle.dtd_brackets.specs.Stacks.{open_at, open_none, open_next, white_open}
use Rattle.dtd_brackets.specs.Windows.{anew}
use Rattle.dtd_models.specs.Bytes.{front_is}
use Rattle.dtd_models.specs.Held.{Model, fault, Stands, Settles, Begun}
use Rattle.dtd_models.specs.declared.Place.{Place}
use Rattle.dtd_models.specs.declared.Walk.TheVariants.{Due}

-- ---- the ends

module _ (known : Name → Bool) (text s : List ℕ) (e : ℕ) where
  -- the model is taken, with these symbols and names, up to e
  pub taken : (a b : ℕ) → counted known s ≡ ok (a, b) (drop e text) → e ≤ length text
      → Model text (Ok (record { at = e; symbols = a; names = b })) (groups known s)
  taken a b p h = by (groups known s) p
    where
      by : (o : Read Part) → onward {B = ℕ × ℕ} o (λ q t. ok (symbols q, words q) t) ≡ ok (a, b) (drop e text)
          → Model text (Ok (record { at = e; symbols = a; names = b })) o
      by (stop k t) p = let z : ◌≡◌ {A = ℕ} 0 1 = cc in absurd (omega arith)
      by (ok q t) p =
          let x : ◌≡◌ {A = ℕ × ℕ} (symbols q, words q) (a, b) = cc in
          let y : t ≡ drop e text = cc in
          (record { inside = h; rest = sym y }, sym (ap (λ z. z.0) x) ∙ sym (symbols_many (λ n. 0) q), sym (ap (λ z. z.1) x) ∙ sym (names_many (λ n. 0) q))

  -- it is refused at e
  pub refused : counted known s ≡ stop outside (drop e text) → e ≤ length text
      → Model text (Err (record { refusal = DtdText; at = e })) (groups known s)
  refused p h = by (groups known s) p
    where
      by : (o : Read Part) → onward {B = ℕ × ℕ} o (λ q t. ok (symbols q, words q) t) ≡ stop outside (drop e text)
          → Model text (Err (record { refusal = DtdText; at = e })) o
      by (stop k t) p =
          let x : k ≡ 14 = cc in
          let y : t ≡ drop e text = cc in
          (sym x, record { inside = h; rest = sym y })
      by (ok q t) p = let z : ◌≡◌ {A = ℕ} 0 1 = cc in absurd (omega arith)

-- a fault on the way is that of the model
pub refused_so : (known : Name → Bool) (text s : List ℕ) (f : Fault) (k : ℕ) (t : List ℕ) → counted known s ≡ stop k t → (number_of f.refusal ≡ k) × At text f.at t
    → Model text (Err f) (groups known s)
refused_so known text s f k t p x = by (groups known s) p
  where
    by : (o : Read Part) → onward {B = ℕ × ℕ} o (λ q t. ok (symbols q, words q) t) ≡ stop k t → Model text (Err f) o
    by (stop j u) p =
        let a : j ≡ k = cc in
        let b : u ≡ t = cc in
        rw (a, b) x
    by (ok q u) p = let z : ◌≡◌ {A = ℕ} 0 1 = cc in absurd (omega arith)

-- ---- before the first byte

module _ (text : List ℕ) (from : ℕ) (h : from ≤ length text) (c : Bool) (q : c ≡ begins (eqb opening) (drop from text)) where
  pub begun : (e : ℕ) → c ≡ true → At text e (past is_white (drop (from + 1) text))
      → Begun text from (Ok (Due (record { at = e; depth = 1; window = 1; symbols = 0; names = 0 })))
  begun e p a =
      let (i, f, g) = front_is text from opening (sym q ∙ p) in
      let x : open_at text from (suc from) ≡ free ∷ [] = open_next text from from (omega arith) i ∙ rw (open_none text from, ← g) in
      let (u, v) = white_open text from (suc from) e (omega arith) (omega arith) a.inside (rw (← add-one from) a.rest) in
      let o : open_at text from e ≡ free ∷ [] = v ∙ x in
      let r : drop e text ≡ past is_white (drop (suc from) text) = rw (← add-one from) a.rest in
      λ known.
      record {
        stands = record {
          inside = a.inside;
          ahead = omega arith;
          deep = rw o;
          some = omega arith;
          near = rw o (anew []);
          few_symbols = omega arith;
          few_names = omega arith;
          low = omega arith;
        };
        same = ap (counted known) f ∙ begins_walk known (drop (suc from) text) ∙ rw (o, r);
      }

  pub no_begin : c ≡ false → Begun text from (fault from)
  no_begin p = λ known. refused known text (drop from text) from (no_model_lem known (drop from text) (sym q ∙ p)) h

-- ---- past white space

past_past : (s : List ℕ) → past is_white (past is_white s) ≡ past is_white s
past_past s = by (past is_white s) (run_past is_white s).2
  where
    by : (t : List ℕ) → begins is_white t ≡ false → past is_white t ≡ t
    by [] p = refl
    by (b ∷ t) p = rw p

module _ (text : List ℕ) (from : ℕ) (p : Place) (s : Stands text from p) where
  -- some bracket is open
  pub stacked : {A : Type 0} → ((k : Joint) (l : List Joint) → open_at text from p.at ≡ k ∷ l → A) → A
  stacked {A} f = by (open_at text from p.at) refl
    where
      by : (l : List Joint) → open_at text from p.at ≡ l → A
      by [] e = let d = s.deep in let n : length (open_at text from p.at) ≡ 0 = rw e in let m = s.some in absurd (omega arith)
      by (k ∷ l) e = f k l e

  same_behind : (known : Name → Bool) (a b : ℕ) (l m : List ℕ) → past is_white l ≡ past is_white m
      → after known (open_at text from p.at) a b l ≡ after known (open_at text from p.at) a b m
  same_behind known a b l m e = stacked (λ k t o. rw (o, e))

  pub white : (e : ℕ) → At text e (past is_white (drop p.at text))
      → Settles text from p (record { at = e; depth = p.depth; window = p.window; symbols = p.symbols; names = p.names })
  white e a =
      let (u, v) = white_open text from p.at e s.ahead s.inside a.inside a.rest in
      let t : Stands text from (record { at = e; depth = p.depth; window = p.window; symbols = p.symbols; names = p.names }) = record {
        inside = a.inside;
        ahead = let x = s.ahead in omega arith;
        deep = rw v s.deep;
        some = s.some;
        near = rw v s.near;
        few_symbols = let x = s.few_symbols in omega arith;
        few_names = let x = s.few_names in omega arith;
        low = let x = s.low in omega arith;
      } in
      let f : past is_white (drop e text) ≡ drop e text = rw a.rest (past_past (drop p.at text)) in
      record {
        stands = t;
        later = u;
        fresh = f;
        goes = λ known b. record {
          stands = t;
          same = b.same ∙ rw v (same_behind known p.symbols p.names (drop p.at text) (drop e text) (rw a.rest (sym (past_past (drop p.at text)))));
        };
      }
