-- An expression over its occurrences: `mark b e` is e with each name replaced by the number of its occurrence, where the
-- numbers start at b. So a word of `mark b e` says which occurrence each letter of a word of e is read at.
-- A word is e's exactly if it is the names of a marked word's occurrences. Assumes nothing.
use Rattle.std.specs.Prelude.{◌≡◌, ◌↔◌, ℕ, ◌+◌, ◌<◌, List, ◌++◌, map, get_or}
use Rattle.std.proofs.Common.{sym, ap, ap₂, ◌∙◌, subst, zero-add, add-zero, add_assoc, arith, get_or-append-add}
use Rattle.std.proofs.Math.ListN.{get_or-append}
use Rattle.paper.specs.Expressions.{Expr, name, seq, alt, opt, star, plus, names, count, name_at, Matches, mark, Marked}
use Rattle.content_laws.specs.Names.{length_names}
use Rattle.content_laws.specs.Rename.{rename, renamed}

-- g gives the occurrences of e, numbered from b, their names
abbrev Names : (ℕ → ℕ) → ℕ → Expr → Type 0
Names g b e = (i : ℕ) → i < count e → g (b + i) ≡ name_at e i

names_left : (g : ℕ → ℕ) (b : ℕ) (e f : Expr) → Names g b (seq e f) → Names g b e
names_left g b e f h i k = h i (omega arith) ∙ get_or-append (names e) (names f) 0 i (rw (length_names e) k)

names_right : (g : ℕ → ℕ) (b : ℕ) (e f : Expr) → Names g b (seq e f) → Names g (b + count e) f
names_right g b e f h i k =
    ap g (add_assoc b (count e) i)
    ∙ h (count e + i) (omega arith)
    ∙ ap (λ (n : ℕ). get_or (names e ++ names f) (n + i) 0) (sym (length_names e))
    ∙ get_or-append-add (names e) (names f) i 0

-- marked, and then named again
unmark : (g : ℕ → ℕ) (b : ℕ) (e : Expr) → Names g b e → rename g (mark b e) ≡ e
unmark g b (name a) h = ap name (ap g (sym (add-zero b)) ∙ h 0 (omega arith))
unmark g b (seq e f) h = ap₂ seq (unmark g b e (names_left g b e f h)) (unmark g (b + count e) f (names_right g b e f h))
unmark g b (alt e f) h = ap₂ alt (unmark g b e (names_left g b e f h)) (unmark g (b + count e) f (names_right g b e f h))
unmark g b (opt e) h = ap opt (unmark g b e h)
unmark g b (star e) h = ap star (unmark g b e h)
unmark g b (plus e) h = ap plus (unmark g b e h)

pub matches_marked : (e : Expr) (w : List ℕ) → Matches e w ↔ ((p : List ℕ) × Marked 0 e p × (map (name_at e) p ≡ w))
matches_marked e w =
    let named : rename (name_at e) (mark 0 e) ≡ e = unmark (name_at e) 0 e (λ i h. ap (name_at e) (zero-add i)) in
    subst (λ (x : Expr). Matches x w ↔ ((p : List ℕ) × Marked 0 e p × (map (name_at e) p ≡ w))) named (renamed (name_at e) (mark 0 e) w)
