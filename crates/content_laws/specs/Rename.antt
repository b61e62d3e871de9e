-- An expression with its names mapped by g: its words are the words of the expression, mapped. Assumes nothing.
use Rattle.std.specs.Prelude.{◌≡◌, refl, ◌↔◌, ℕ, List, [], ◌∷◌, ◌++◌, map}
use Rattle.std.proofs.Common.{sym, subst, inl, inr}
use Rattle.std.proofs.lemmas.List.{map-append}
use Rattle.paper.specs.Expressions.{Expr, name, seq, alt, opt, star, plus, Matches, this, then, left, right, skip, take, stop, more, some}
use Rattle.content_laws.specs.Meaning.{of_name, of_seq, of_alt, of_opt, of_star, of_plus}

-- the same expression with g of each name
abbrev pub rename : (ℕ → ℕ) → Expr → Expr
rename g (name a) = name (g a)
rename g (seq e f) = seq (rename g e) (rename g f)
rename g (alt e f) = alt (rename g e) (rename g f)
rename g (opt e) = opt (rename g e)
rename g (star e) = star (rename g e)
rename g (plus e) = plus (rename g e)

pub rename_to : (g : ℕ → ℕ) {e : Expr} {p : List ℕ} → Matches e p → Matches (rename g e) (map g p)
rename_to g this = this
rename_to g (then {u = u} {v = v} m n) = rw (map-append g u v) (then (rename_to g m) (rename_to g n))
rename_to g (left m) = left (rename_to g m)
rename_to g (right m) = right (rename_to g m)
rename_to g skip = skip
rename_to g (take m) = take (rename_to g m)
rename_to g stop = stop
rename_to g (more {u = u} {v = v} m n) = rw (map-append g u v) (more (rename_to g m) (rename_to g n))
rename_to g (some {u = u} {v = v} m n) = rw (map-append g u v) (some (rename_to g m) (rename_to g n))

-- a word of e that g takes to w
abbrev pub Preimage : (ℕ → ℕ) → Expr → List ℕ → Type 0
Preimage g e w = (p : List ℕ) × Matches e p × (map g p ≡ w)

joined : (g : ℕ → ℕ) (p q : List ℕ) {u v w : List ℕ} → w ≡ u ++ v → map g p ≡ u → map g q ≡ v → map g (p ++ q) ≡ w
joined g p q {u} {v} {w} c d k = cc (map-append g p q)

star_from : (g : ℕ → ℕ) (e : Expr) → ((w : List ℕ) → Matches (rename g e) w → Preimage g e w)
    → {w : List ℕ} → Matches (star (rename g e)) w → Preimage g (star e) w
star_from g e each m =
    of_star (Preimage g (star e)) ([], stop, refl)
    (λ u v m₁ h.
    let (p, n₁, d) = each u m₁ in
    let (q, n₂, k) = h in
    (p ++ q, more n₁ n₂, joined g p q refl d k)) m

rename_from : (g : ℕ → ℕ) (e : Expr) (w : List ℕ) → Matches (rename g e) w → Preimage g e w
rename_from g (name a) w m = (a ∷ [], this, sym (of_name m))
rename_from g (seq e f) w m =
    let (u, v, c, m₁, m₂) = of_seq m in
    let (p, n₁, d) = rename_from g e u m₁ in
    let (q, n₂, k) = rename_from g f v m₂ in
    (p ++ q, then n₁ n₂, joined g p q c d k)
rename_from g (alt e f) w m =
    elim (of_alt m) [
      | inl m₁ ↦ let (p, n, d) = rename_from g e w m₁ in (p, left n, d)
      | inr m₂ ↦ let (p, n, d) = rename_from g f w m₂ in (p, right n, d)
    ]
rename_from g (opt e) w m =
    elim (of_opt m) [
      | inl c ↦ ([], skip, sym c)
      | inr m₁ ↦ let (p, n, d) = rename_from g e w m₁ in (p, take n, d)
    ]
rename_from g (star e) w m = star_from g e (rename_from g e) m
rename_from g (plus e) w m =
    let (u, v, c, m₁, m₂) = of_plus m in
    let (p, n₁, d) = rename_from g e u m₁ in
    let (q, n₂, k) = star_from g e (rename_from g e) m₂ in
    (p ++ q, some n₁ n₂, joined g p q c d k)

-- the words of the renamed expression are the renamed words
pub renamed : (g : ℕ → ℕ) (e : Expr) (w : List ℕ) → Matches (rename g e) w ↔ Preimage g e w
renamed g e w = (rename_from g e w, λ h. subst (Matches (rename g e)) h.2 (rename_to g h.1))
