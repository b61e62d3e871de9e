-- What `read_model` ensures fixes its outcome: for the same symbols the same is given, every word of `follow` included. Assumes nothing.
use Rattle.std.specs.Prelude.{◌≡◌, refl, Option, Some, None, List, ℕ}
use Rattle.std.proofs.Common.{sym, ap, ◌∙◌}
use Rattle.std.proofs.Math.Option.{some}
use Rattle.paper.specs.Expressions.{count}
use Rattle.paper.specs.Sets.{nullable, first_word, last_word}
use Rattle.content.specs.declared.Model.{Model}
use Rattle.content.specs.Model.{follow_words, Modelled}

module _ {s g g' : List ℕ} {r r' : Option Model} (m : Modelled s g r) (m' : Modelled s g' r') where
  both_found : (a b : Model) → r ≡ Some a → r' ≡ Some b → (r ≡ r') × (g ≡ g')
  both_found a b o o' =
      let f = m.found a o in
      let f' = m'.found b o' in
      let c : some f.expr ≡ some f'.expr = sym f.reads ∙ f'.reads in
      let e : f.expr ≡ f'.expr = cc in (
        o ∙ ap Some (same (f.count ∙ ap count e ∙ sym f'.count) (f.nullable ∙ ap nullable e ∙ sym f'.nullable) (f.first ∙ ap (first_word 0) e ∙ sym f'.first)
            (f.last ∙ ap (last_word 0) e ∙ sym f'.last)) ∙ sym o',
        f.follow ∙ ap follow_words e ∙ sym f'.follow,
      )
    where
      same : a.count ≡ b.count → a.nullable ≡ b.nullable → a.first ≡ b.first → a.last ≡ b.last → a ≡ b
      same q w x y = λ i. record { count = q i; nullable = w i; first = x i; last = y i }

  pub one_outcome : (r ≡ r') × (g ≡ g')
  one_outcome = go r r' refl refl
    where
      go : (o o' : Option Model) → r ≡ o → r' ≡ o' → (r ≡ r') × (g ≡ g')
      go (Some a) (Some b) p q = both_found a b p q
      go (Some a) None p q = let f = m.found a p in absurd ((m'.none q).never f.expr f.reads f.fits)
      go None (Some b) p q = let f = m'.found b q in absurd ((m.none p).never f.expr f.reads f.fits)
      go None None p q = (p ∙ sym q, (m.none p).follow ∙ sym (m'.none q).follow)
