-- The counts of names in some tokens: as a list of 48, and one token at a time. Assumes nothing.
use Rattle.std.specs.Prelude.{◌≡◌, refl, Bool, true, false, cond, not, List, [], ◌∷◌, ◌++◌, ℕ, zero, suc, ◌+◌, ◌/◌, ◌≤◌, ◌<◌, eqb, ltb, length, get_or, set, take, replicate}
use Rattle.std.proofs.Common.{sym, ap, ap₂, ◌∙◌, arith, add-one, eqb-true, eq-eqb, lt-ltb, le-ltb, Fits, length-take, length-set, take-suc, take_all, get_or-set_same, get_or-set_other, ext_get_or}
use Rattle.std.proofs.lemmas.List.{map-append, length-map}
use Rattle.std.proofs.lemmas.Bool.{not-true, not-false}
use Rattle.std.specs.Int.{w32}
use Rattle.paper.specs.declared.Tok.{Tok}
use Rattle.paper.specs.declared.Tok.TheVariants.{Start, End, Text, Attr, Value, Bad}
use Rattle.paper.specs.Basics.{most_tokens, most_elements}
use Rattle.paper.specs.Tokens.{toks, tok_of, starts}
use Rattle.paper.specs.Counts.{tally, counted}
use Rattle.basic_laws.specs.Bools.{clash}
use Rattle.tokens.specs.Theorems.{start_iff}

-- what f gives for k names from e on
abbrev pub names_by : {A : Type 0} → (ℕ → A) → (e k : ℕ) → List A
names_by f e zero = []
names_by f e (suc k) = f e ∷ names_by f (suc e) k

-- how many of each name start in d; "Names of E and above are counted nowhere"
unfoldable pub tallies : (E : ℕ) → List Tok → List ℕ
tallies E d = names_by (λ e. counted E e (tally e d)) 0 most_elements

-- counts with one more token
abbrev pub noted : (E : ℕ) → List ℕ → Tok → List ℕ
noted E l (Start n) = cond (ltb n E) (set l n (get_or l n 0 + 1)) l
noted E l End = l
noted E l (Text n) = l
noted E l (Attr n) = l
noted E l (Value n) = l
noted E l Bad = l

-- 48 counts, each with room for one more
pub record Room (l : List ℕ) : Type 0 where
  pub long : length l ≡ most_elements
  pub few : (i : ℕ) → get_or l i 0 ≤ most_tokens

pub room_fits : {l : List ℕ} → Room l → (i : ℕ) → Fits w32 (get_or l i 0 + 1)
room_fits r i = record { fits = omega (arith, r.few i) }

-- ---- the list by its places

pub names_long : {A : Type 0} → (f : ℕ → A) (e k : ℕ) → length (names_by f e k) ≡ k
names_long f e zero = refl
names_long f e (suc k) = ap suc (names_long f (suc e) k)

pub names_at : {A : Type 0} → (d : A) (f : ℕ → A) (e k i : ℕ) → i < k → get_or (names_by f e k) i d ≡ f (e + i)
names_at d f e zero i h = absurd (omega arith)
names_at d f e (suc k) zero h = ap f (omega arith)
names_at d f e (suc k) (suc i) h = names_at d f (suc e) k i (omega arith) ∙ ap f (omega arith)

pub tallies_long : (E : ℕ) (d : List Tok) → length (tallies E d) ≡ most_elements
unfolding tallies
tallies_long E d = names_long (λ e. counted E e (tally e d)) 0 most_elements

pub tallies_at : (E : ℕ) (d : List Tok) (i : ℕ) → i < most_elements → get_or (tallies E d) i 0 ≡ counted E i (tally i d)
unfolding tallies
tallies_at E d i h = names_at 0 (λ e. counted E e (tally e d)) 0 most_elements i h ∙ ap (λ e. counted E e (tally e d)) (omega arith)

-- ---- how many there can be

pub tally_most : (e : ℕ) (d : List Tok) → tally e d ≤ length d
tally_most e [] = omega arith
tally_most e (Start n ∷ d) = go (eqb n e) (tally_most e d)
  where
    go : (b : Bool) → tally e d ≤ length d → cond b 1 0 + tally e d ≤ suc (length d)
    go true h = omega arith
    go false h = omega arith
tally_most e (End ∷ d) = omega (arith, tally_most e d)
tally_most e (Text n ∷ d) = omega (arith, tally_most e d)
tally_most e (Attr n ∷ d) = omega (arith, tally_most e d)
tally_most e (Value n ∷ d) = omega (arith, tally_most e d)
tally_most e (Bad ∷ d) = omega (arith, tally_most e d)

names_few : (f : ℕ → ℕ) (m : ℕ) → ((e : ℕ) → f e ≤ m) → (e k i : ℕ) → get_or (names_by f e k) i 0 ≤ m
names_few f m h e zero i = omega arith
names_few f m h e (suc k) zero = h e
names_few f m h e (suc k) (suc i) = names_few f m h (suc e) k i

pub tallies_few : (E : ℕ) (l : List ℕ) → length l ≤ most_tokens → (i : ℕ) → get_or (tallies E (toks l)) i 0 ≤ most_tokens
unfolding tallies
tallies_few E l h = names_few (λ e. counted E e (tally e (toks l))) most_tokens (λ e. here e (ltb e E)) 0 most_elements
  where
    here : (e : ℕ) (b : Bool) → cond b (tally e (toks l)) 0 ≤ most_tokens
    here e true = omega (arith, tally_most e (toks l), length-map l tok_of)
    here e false = omega arith

-- ---- one token more

pub tally_append : (e : ℕ) (a b : List Tok) → tally e (a ++ b) ≡ tally e a + tally e b
tally_append e [] b = omega arith
tally_append e (Start n ∷ a) b = omega (arith, tally_append e a b)
tally_append e (End ∷ a) b = tally_append e a b
tally_append e (Text n ∷ a) b = tally_append e a b
tally_append e (Attr n ∷ a) b = tally_append e a b
tally_append e (Value n ∷ a) b = tally_append e a b
tally_append e (Bad ∷ a) b = tally_append e a b

same_by : (f h : ℕ → ℕ) → ((e : ℕ) → f e ≡ h e) → (e k : ℕ) → names_by f e k ≡ names_by h e k
same_by f h s e zero = refl
same_by f h s e (suc k) = ap₂ (λ x l. x ∷ l) (s e) (same_by f h s (suc e) k)

-- a token that starts nothing that is counted
none_more : (E : ℕ) (d : List Tok) (t : Tok) → ((e : ℕ) → counted E e (tally e (t ∷ [])) ≡ 0) → tallies E d ≡ tallies E (d ++ (t ∷ []))
unfolding tallies
none_more E d t z = same_by (λ e. counted E e (tally e d)) (λ e. counted E e (tally e (d ++ (t ∷ [])))) (λ e. go e (ltb e E) (z e)) 0 most_elements
  where
    go : (e : ℕ) (b : Bool) → cond b (tally e (t ∷ [])) 0 ≡ 0 → cond b (tally e d) 0 ≡ cond b (tally e (d ++ (t ∷ []))) 0
    go e true w = omega (arith, tally_append e d (t ∷ []))
    go e false w = refl

nothing : (b : Bool) → ◌≡◌ {A = ℕ} (cond b 0 0) 0
nothing true = refl
nothing false = refl

-- a start of a name below E
one_more : (E n : ℕ) (d : List Tok) → E ≤ most_elements → ltb n E ≡ true → set (tallies E d) n (get_or (tallies E d) n 0 + 1) ≡ tallies E (d ++ (Start n ∷ []))
one_more E n d few below =
    let old : List ℕ = tallies E d in
    let new : List ℕ = tallies E (d ++ (Start n ∷ [])) in
    let long : length (set old n (get_or old n 0 + 1)) ≡ most_elements = length-set old n (get_or old n 0 + 1) ∙ tallies_long E d in
    ext_get_or 0 (set old n (get_or old n 0 + 1)) new (long ∙ sym (tallies_long E (d ++ (Start n ∷ [])))) (λ i h. go i (omega arith) (eqb n i) refl)
  where
    go : (i : ℕ) → i < most_elements → (b : Bool) → eqb n i ≡ b → get_or (set (tallies E d) n (get_or (tallies E d) n 0 + 1)) i 0 ≡ get_or (tallies E (d ++ (Start n ∷ []))) i 0
    go i h true e =
        let same : n ≡ i = eqb-true n i e in
        let under : ltb i E ≡ true = sym (ap (λ k. ltb k E) same) ∙ below in
        ap (λ k. get_or (set (tallies E d) n (get_or (tallies E d) n 0 + 1)) k 0) (sym same)
        ∙ get_or-set_same (tallies E d) n (get_or (tallies E d) n 0 + 1) 0 (omega (arith, tallies_long E d))
        ∙ ap (λ k. get_or (tallies E d) k 0 + 1) same
        ∙ ap (λ k. k + 1) (tallies_at E d i h ∙ ap (λ b. cond b (tally i d) 0) under)
        ∙ omega (arith, tally_append i d (Start n ∷ []), ap {B = ℕ} (λ b. cond b 1 0) e)
        ∙ sym (tallies_at E (d ++ (Start n ∷ [])) i h ∙ ap (λ b. cond b (tally i (d ++ (Start n ∷ []))) 0) under)
    go i h false e =
        get_or-set_other (tallies E d) n i (get_or (tallies E d) n 0 + 1) 0 (λ s. clash (eq-eqb n i (sym s)) e)
        ∙ tallies_at E d i h
        ∙ ap (λ k. counted E i k) (omega (arith, tally_append i d (Start n ∷ []), ap {B = ℕ} (λ b. cond b 1 0) e))
        ∙ sym (tallies_at E (d ++ (Start n ∷ [])) i h)

noted_next : (E : ℕ) (d : List Tok) (t : Tok) → E ≤ most_elements → noted E (tallies E d) t ≡ tallies E (d ++ (t ∷ []))
noted_next E d (Start n) few = go (ltb n E) refl
  where
    go : (b : Bool) → ltb n E ≡ b → cond b (set (tallies E d) n (get_or (tallies E d) n 0 + 1)) (tallies E d) ≡ tallies E (d ++ (Start n ∷ []))
    go true below = one_more E n d few below
    go false over = none_more E d (Start n) (λ e. here e (ltb e E) refl (eqb n e) refl)
      where
        here : (e : ℕ) (b : Bool) → ltb e E ≡ b → (s : Bool) → eqb n e ≡ s → cond b (cond s 1 0 + 0) 0 ≡ 0
        here e true below true s = clash (ap (λ k. ltb k E) (eqb-true n e s) ∙ below) over
        here e true below false s = refl
        here e false below s w = refl
noted_next E d End few = none_more E d End (λ e. nothing (ltb e E))
noted_next E d (Text n) few = none_more E d (Text n) (λ e. nothing (ltb e E))
noted_next E d (Attr n) few = none_more E d (Attr n) (λ e. nothing (ltb e E))
noted_next E d (Value n) few = none_more E d (Value n) (λ e. nothing (ltb e E))
noted_next E d Bad few = none_more E d Bad (λ e. nothing (ltb e E))

-- ---- the ways out of `note`

not_start : (t : Tok) → starts t ≡ false → (E : ℕ) (l : List ℕ) → l ≡ noted E l t
not_start (Start n) h E l = clash refl h
not_start End h E l = refl
not_start (Text n) h E l = refl
not_start (Attr n) h E l = refl
not_start (Value n) h E l = refl
not_start Bad h E l = refl

module _ (E t : ℕ) (l : List ℕ) {y : Bool} (ey : y ≡ starts (tok_of t)) where
  pub note_other : not y ≡ true → l ≡ noted E l (tok_of t)
  note_other h = not_start (tok_of t) (sym ey ∙ not-true y h) E l

  module _ (h : not y ≡ false) {n : ℕ} (en : n ≡ t / 8) where
    named : tok_of t ≡ Start n
    named = (start_iff t).0 (sym ey ∙ not-false y h) ∙ ap Start (sym en)

    pub note_start : n < E → set l n (get_or l n 0 + 1) ≡ noted E l (tok_of t)
    note_start k = sym (ap (noted E l) named ∙ ap (λ b. cond b (set l n (get_or l n 0 + 1)) l) (lt-ltb n E k))

    pub note_above : E ≤ n → l ≡ noted E l (tok_of t)
    note_above k = sym (ap (noted E l) named ∙ ap (λ b. cond b (set l n (get_or l n 0 + 1)) l) (le-ltb n E k))

-- ---- the loop of `tally`

-- so many tokens of the part are counted
pub record Tallying (E : ℕ) (part : List ℕ) (i : ℕ) (now : List ℕ) : Type 0 where
  pub few : E ≤ most_elements
  pub short : length part ≤ most_tokens
  pub within : i ≤ length part
  pub so_far : now ≡ tallies E (toks (take i part))

zeros : (E e k : ℕ) → replicate k 0 ≡ names_by (λ e. counted E e 0) e k
zeros E e zero = refl
zeros E e (suc k) = ap₂ (λ x l. x ∷ l) (sym (nothing (ltb e E))) (zeros E (suc e) k)

pub tallies_none : (E : ℕ) → replicate most_elements 0 ≡ tallies E []
unfolding tallies
tallies_none E = zeros E 0 most_elements

module _ {E : ℕ} {part : List ℕ} where
  pub tallying_begin : {now : List ℕ} → E ≤ most_elements → length part ≤ most_tokens → now ≡ replicate most_elements 0 → Tallying E part 0 now
  tallying_begin few short z = record { few = few; short = short; within = omega arith; so_far = z ∙ tallies_none E }

  module _ {i : ℕ} {now : List ℕ} (t : Tallying E part i now) where
    pub tallying_room : Room now
    tallying_room =
        rw t.so_far
        (record { long = tallies_long E (toks (take i part)); few = tallies_few E (take i part) (omega (arith, length-take i part, t.short)) })

    pub tallying_turn : {next : List ℕ} → i < length part → next ≡ noted E now (tok_of (get_or part i 0)) → Tallying E part (i + 1) next
    tallying_turn h e =
        record {
          few = t.few;
          short = t.short;
          within = omega arith;
          so_far = e ∙ ap (λ l. noted E l (tok_of (get_or part i 0))) t.so_far ∙ noted_next E (toks (take i part)) (tok_of (get_or part i 0)) t.few
              ∙ ap (tallies E) (sym (ap toks (ap (λ k. take k part) (add-one i) ∙ take-suc part i 0 h) ∙ map-append tok_of (take i part) (get_or part i 0 ∷ [])));
        }

    pub tallying_end : length part ≤ i → now ≡ tallies E (toks part)
    tallying_end h = t.so_far ∙ ap (λ l. tallies E (toks l)) (take_all i part h)
