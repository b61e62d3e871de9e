-- The form of an edit: what the code tells of its operation, piece, place and size. Assumes nothing.
use Rattle.std.specs.Prelude.{◌≡◌, ◌≢◌, refl, Bool, false, List, ℕ, zero, suc, ◌+◌, ◌≤◌, leb, take, Some, None, Result, Ok, Err}
use Rattle.std.proofs.Common.{sym, ◌∙◌, arith}
use Rattle.std.proofs.Math.Path.{ap, ap₂}
use Rattle.std.proofs.Math.Bool.{true, cond, and-false, and-eq-true_iff}
use borrow.Author.Tests.{lt-leb, leb-true}
use Rattle.std.proofs.Math.ListN.{length, length-map}
use Rattle.paper.specs.declared.Tok.{Tok}
use Rattle.paper.specs.declared.Operation.{Operation}
use Rattle.paper.specs.declared.Operation.TheVariants.{Insert, Remove, Replace, Set, Drop}
use Rattle.paper.specs.declared.Refusal.{Refusal}
use Rattle.paper.specs.Basics.{most_tokens, most_deep, between}
use Rattle.paper.specs.Codes.{number_of, operation_of}
use Rattle.paper.specs.Tokens.{toks, tok_of, deep}
use Rattle.paper.specs.Shape.{shallow, shape_of}
use Rattle.paper.specs.Edits.{Request, good_piece, good_place, splice_at, splice_cut, coming, splice, edited, fits, form_fault}
use Rattle.shape_laws.specs.Bridge.{toks_take}
use Rattle.shape_laws.specs.Depth.{open_in}
use Rattle.shape_laws.specs.Five.{Allowed, allowed_within, five_deep, place_deep}
use Rattle.shape_laws.specs.EditJudged.{allowed_by, coming_toks, edited_toks}
use Rattle.shape_laws.specs.Shaped.{shaped_doc}
use Rattle.plans.specs.declared.Plan.{Plan}
use Rattle.form.specs.declared.Form.{Form}
use Rattle.plans.specs.Plan.{planned, plan_of}
use Rattle.form.specs.Size.{Made, Level, come_le}

-- an edit in form, by the request; `after` holds the edited tokens
pub record InForm (room : ℕ) (q : Request) (doc after : List ℕ) (f : Form) : Type 0 where
  pub none : form_fault room q doc ≡ 0
  pub place : f.at ≡ splice_at q.operation q.place (toks q.piece) (toks doc)
  pub come : f.coming ≡ length (coming q.operation q.piece)
  pub size : f.used ≡ length (edited q doc)
  pub tokens : take f.used after ≡ edited q doc

abbrev pub Formed : ℕ → Request → (doc after : List ℕ) → Result Form Refusal → Type 0
Formed room q doc after (Ok f) = InForm room q doc after f
Formed room q doc after (Err r) = number_of r ≡ form_fault room q doc

pub shaped_few : (doc : List ℕ) → shape_of doc (length doc) ≡ true → length doc ≤ most_tokens
shaped_few doc e = (shaped_doc doc e).few

-- a good plan
pub record Good (op place : ℕ) (p d : List Tok) (r : Plan) : Type 0 where
  pub stands : good_place op place p d ≡ true
  pub at : r.at ≡ splice_at op place p d
  pub cut : r.cut ≡ splice_cut op place p d

plan_good : (op place : ℕ) (p d : List Tok) {r : Plan} → Some r ≡ plan_of op place p d → Good op place p d r
unfolding plan_of
plan_good op place p d {r} e = go (good_place op place p d) refl e
  where
    go : (b : Bool) → good_place op place p d ≡ b → Some r ≡ planned b (splice_at op place p d) (splice_cut op place p d) → Good op place p d r
    go true f e =
        let w : r ≡ record { at = splice_at op place p d; cut = splice_cut op place p d } = cc in
        record { stands = f; at = ap (λ (x : Plan). x.at) w; cut = ap (λ (x : Plan). x.cut) w }
    go false f e = cc

plan_bad : (op place : ℕ) (p d : List Tok) → None ≡ plan_of op place p d → good_place op place p d ≡ false
unfolding plan_of
plan_bad op place p d e = go (good_place op place p d) refl e
  where
    go : (b : Bool) → good_place op place p d ≡ b → None ≡ planned b (splice_at op place p d) (splice_cut op place p d) → good_place op place p d ≡ false
    go true f e = cc
    go false f e = f

-- the operations are numbered 1 to 5
five : (o : Operation) → between 1 5 (operation_of o) ≡ true
five Insert = refl
five Remove = refl
five Replace = refl
five Set = refl
five Drop = refl

module _ (room place : ℕ) (piece doc : List ℕ) where
  pub form_none : (op : ℕ) → ((o : Operation) → op ≢ operation_of o) → 6 ≡ form_fault room (record { operation = op; place = place; piece = piece }) doc
  unfolding form_fault
  form_none zero h = refl
  form_none (suc zero) h = absurd (h Insert refl)
  form_none (suc (suc zero)) h = absurd (h Remove refl)
  form_none (suc (suc (suc zero))) h = absurd (h Replace refl)
  form_none (suc (suc (suc (suc zero)))) h = absurd (h Set refl)
  form_none (suc (suc (suc (suc (suc zero))))) h = absurd (h Drop refl)
  form_none (suc (suc (suc (suc (suc (suc op)))))) h = rw (lt-leb (suc (suc (suc (suc (suc (suc op)))))) 5 (omega arith), and-false (leb 1 (suc (suc (suc (suc (suc (suc op))))))))

  module _ (op : ℕ) (o : Operation) (eo : op ≡ operation_of o) where
    abbrev q : Request
    q = record { operation = op; place = place; piece = piece }

    abbrev q' : Request
    q' = record { operation = operation_of o; place = place; piece = piece }

    as_named : form_fault room q doc ≡ form_fault room q' doc
    as_named = ap (λ n. form_fault room (record { operation = n; place = place; piece = piece }) doc) eo

    module _ {y : Bool} (ey : y ≡ good_piece (operation_of o) (toks piece)) where
      pub form_piece : y ≡ false → 4 ≡ form_fault room (record { operation = op; place = place; piece = piece }) doc
      unfolding form_fault
      form_piece n = wrong ∙ sym as_named
        where
          wrong : 4 ≡ form_fault room q' doc
          wrong = rw (five o, ← ey, n)

      module _ (n : y ≡ true) where
        pub form_place : None ≡ plan_of (operation_of o) place (toks piece) (toks doc) → 6 ≡ form_fault room (record { operation = op; place = place; piece = piece }) doc
        unfolding form_fault
        form_place m = wrong ∙ sym as_named
          where
            wrong : 6 ≡ form_fault room q' doc
            wrong = rw (five o, ← ey, n, plan_bad (operation_of o) place (toks piece) (toks doc) m)

        module _ {pl : Plan} (ep : Some pl ≡ plan_of (operation_of o) place (toks piece) (toks doc)) where
          good : Good (operation_of o) place (toks piece) (toks doc) pl
          good = plan_good (operation_of o) place (toks piece) (toks doc) ep

          edited_is : {cm : List ℕ} → cm ≡ coming (operation_of o) piece → splice pl.at pl.cut cm doc ≡ edited q' doc
          unfolding edited
          edited_is {cm} ec =
              ap₂ (λ x z. splice x z cm doc) good.at good.cut
              ∙ ap (λ z. splice (splice_at (operation_of o) place (toks piece) (toks doc)) (splice_cut (operation_of o) place (toks piece) (toks doc)) z doc) ec

          right : cond (fits room (edited q' doc)) 0 5 ≡ form_fault room q doc
          unfolding form_fault
          right = told ∙ sym as_named
            where
              told : cond (fits room (edited q' doc)) 0 5 ≡ form_fault room q' doc
              told = rw (five o, ← ey, n, good.stands)

          pub form_made : {cm : List ℕ} (after : List ℕ) (r : Result Form Refusal) → cm ≡ coming (operation_of o) piece → Made room pl.at (length cm) (splice pl.at pl.cut cm doc) after r
              → Formed room (record { operation = op; place = place; piece = piece }) doc after r
          form_made {cm} after r ec s = go r s
            where
              new : edited q' doc ≡ edited q doc
              new = ap (λ k. edited (record { operation = k; place = place; piece = piece }) doc) (sym eo)

              go : (r : Result Form Refusal) → Made room pl.at (length cm) (splice pl.at pl.cut cm doc) after r → Formed room q doc after r
              go (Ok f) s = record {
                none = sym right ∙ ap (λ x. cond (fits room x) 0 5) (sym (edited_is ec)) ∙ rw s.good;
                place = s.place ∙ good.at ∙ ap (λ k. splice_at k place (toks piece) (toks doc)) (sym eo);
                come = s.come ∙ ap length ec ∙ ap (λ k. length (coming k piece)) (sym eo);
                size = s.size ∙ ap length (edited_is ec ∙ new);
                tokens = s.tokens ∙ edited_is ec ∙ new;
              }
              go (Err e) s = ap number_of s.0 ∙ sym (sym right ∙ ap (λ x. cond (fits room x) 0 5) (sym (edited_is ec)) ∙ rw s.1)

          module _ (sh : shape_of doc (length doc) ≡ true) where
            allowed : Allowed (toks doc) (splice_at (operation_of o) place (toks piece) (toks doc)) (splice_cut (operation_of o) place (toks piece) (toks doc)) (coming (operation_of o) (toks piece))
            allowed = allowed_by (toks doc) (toks piece) (shaped_doc doc sh).one (operation_of o) place (five o) (sym ey ∙ n) good.stands

            pub plan_within : pl.at + pl.cut ≤ length doc
            plan_within =
                omega (arith, allowed_within (toks doc) (shaped_doc doc sh).one allowed, good.at, good.cut, length-map doc tok_of)

            pub come_few : {cm : List ℕ} → cm ≡ coming (operation_of o) piece → length cm ≤ most_tokens
            unfolding good_piece
            come_few {cm} ec = short (sym ey ∙ n)
              where
                short : good_piece (operation_of o) (toks piece) ≡ true → length cm ≤ most_tokens
                short g =
                    let a = leb-true (length (toks piece)) most_tokens ((and-eq-true_iff (leb (length (toks piece)) most_tokens) _).0 g).0 in
                    omega (arith, length-map piece tok_of, come_le o piece, ap length ec)

            pub level_told : {cm : List ℕ} → cm ≡ coming (operation_of o) piece → Level doc pl.at pl.cut cm
            level_told {cm} ec =
                let s = shaped_doc doc sh in
                let d : List Tok = toks doc in
                let at : ℕ = splice_at (operation_of o) place (toks piece) d in
                let front : toks (take pl.at doc) ≡ take at d = toks_take pl.at doc ∙ ap (λ k. take k d) good.at in
                let come : toks cm ≡ coming (operation_of o) (toks piece) = ap toks ec ∙ coming_toks q' doc in
                let new : toks (splice pl.at pl.cut cm doc) ≡ splice at (splice_cut (operation_of o) place (toks piece) d) (coming (operation_of o) (toks piece)) d
                = ap toks (edited_is ec) ∙ edited_toks q' doc in
                record {
                  low = rw front (place_deep d s.one most_deep s.low at);
                  told = ap shallow new ∙ five_deep d s.one most_deep s.low allowed ∙ ap₂ (λ a b. leb (open_in a + deep 0 b) most_deep) (sym front) (sym come);
                }
