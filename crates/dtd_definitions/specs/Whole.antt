-- A definition, put together of its steps. Assumes nothing.
use Rattle.std.specs.Prelude.{◌≡◌, refl, Result, Ok, Err, List, ℕ, ◌≤◌, length, drop}
use Rattle.std.proofs.Common.{sym, subst, ◌∙◌}
use Rattle.paper.specs.Codes.{kind_of, status_of}
use Rattle.paper.specs.Dtd.Letters.{Name}
use Rattle.paper.specs.Dtd.Declarations.{Kind, Status, Definition}
use Rattle.paper.specs.Dtd.Numbering.{number_in, kind_number, status_number}
use Rattle.paper.specs.Dtd.Readers.{Read, stop, ok, Reader, onward, pure, S, kind, status}
use Rattle.dtd_words.specs.declared.Fault.{Fault}
use Rattle.dtd_words.specs.Places.{At}
use Rattle.dtd_words.specs.Words.{CameTo, faulty, onwards}
use Rattle.dtd_names.specs.Named.{name_at}
use Rattle.dtd_kinds.specs.declared.Kinded.{Kinded}
use Rattle.dtd_kinds.specs.declared.Stated.{Stated}
use Rattle.dtd_kinds.specs.Kinds.{KindCame, StatusCame}
use Rattle.dtd_rows.specs.declared.Row.{Row}
use Rattle.dtd_definitions.specs.declared.Named.{Named}
use Rattle.dtd_definitions.specs.declared.Defined.{Defined}
use Rattle.dtd_definitions.specs.Asked.{definition_in}
use Rattle.dtd_definitions.specs.Steps.{new_name, new_kind, name_after, kind_after, status_after, NameIs, NameCame, KindIs, StatusIs}

-- what the reader of a definition came to
abbrev pub DefinitionIs : List ℕ → List Name → Defined → Definition → List ℕ → Type 0
DefinitionIs text names v d s =
    At text v.at s
    × (name_at text v.place ≡ d.name)
    × (v.attribute ≡ number_in names d.name)
    × (kind_of v.kind ≡ kind_number d.kind)
    × (status_of v.status ≡ status_number d.status)

abbrev pub DefinitionCame : List ℕ → List Name → Result Defined Fault → Read Definition → Type 0
DefinitionCame text names r o = CameTo (DefinitionIs text names) text r o

pub name_inside : (text : List ℕ) (names : List Name) (v : Named) (o : Read Name) → NameCame text names (Ok v) o → v.at ≤ length text
name_inside text names v (ok a s) c = c.0.inside
name_inside text names v (stop k s) c = absurd c

pub kind_inside : (text : List ℕ) (v : Kinded) (o : Read Kind) → KindCame text (Ok v) o → v.at ≤ length text
kind_inside text v (ok a s) c = c.0.inside
kind_inside text v (stop k s) c = absurd c

module _ (text : List ℕ) (names : List Name) (row : Row) where
  abbrev lastly : Name → Kind → Reader Definition
  lastly a k u = onward (status_after u) (λ t. pure (record { name = a; kind = k; status = t }))

  abbrev then : Name → Reader Definition
  then a t = onward (kind_after row t) (lastly a)

  assoc : {A B C : Type 0} (x : Read A) (m : Reader B) (f : B → Reader C) → onward (onward x (λ u. m)) f ≡ onward x (λ u v. onward (m v) f)
  assoc (stop k s) m f = refl
  assoc (ok a s) m f = refl

  onward_same : {A B : Type 0} (x : Read A) (f g : A → Reader B) → ((a : A) (s : List ℕ) → f a s ≡ g a s) → onward x f ≡ onward x g
  onward_same (stop k s) f g h = refl
  onward_same (ok a s) f g h = h a s

  -- the reader, step by step
  stepwise : (s : List ℕ) → definition_in names row s ≡ onward (name_after names row s) then
  stepwise s = sym (assoc (S s) (new_name names row) then ∙ onward_same (S s) _ _ (λ u v. onward_same (new_name names row v) _ _ (λ a t. behind a t)))
    where
      last : (a : Name) (k : Kind) (u : List ℕ) → lastly a k u ≡ onward (S u) (λ w x. onward (status x) (λ t. pure (record { name = a; kind = k; status = t })))
      last a k u = assoc (S u) status (λ t. pure (record { name = a; kind = k; status = t }))

      behind : (a : Name) (t : List ℕ)
          → then a t
          ≡ onward (S t) (λ u v. onward (new_kind row v) (λ k w. onward (S w) (λ z x. onward (status x) (λ t. pure (record { name = a; kind = k; status = t })))))
      behind a t = assoc (S t) (new_kind row) (lastly a) ∙ onward_same (S t) _ _ (λ u v. onward_same (new_kind row v) _ _ (λ k w. last a k w))

  -- ---- how each step ends

  module _ (at : ℕ) where
    abbrev Whole : Result Defined Fault → Type 0
    Whole r = DefinitionCame text names r (definition_in names row (drop at text))

    pub no_name_there : (e : Fault) → NameCame text names (Err e) (name_after names row (drop at text)) → Whole (Err e)
    no_name_there e c = rw (stepwise (drop at text)) (faulty (NameIs text names) (DefinitionIs text names) text then e (name_after names row (drop at text)) c)

    module _ (n : Named) (c : NameCame text names (Ok n) (name_after names row (drop at text))) where
      behind_name : (r : Result Defined Fault)
          → ((a : Name) → name_at text n.place ≡ a → n.attribute ≡ number_in names a → DefinitionCame text names r (then a (drop n.at text))) → Whole r
      behind_name r g =
          rw (stepwise (drop at text))
          (onwards (NameIs text names) (DefinitionIs text names) text then n (name_after names row (drop at text)) r c
          (λ a s p. subst (λ s. DefinitionCame text names r (then a s)) p.0.rest (g a p.1 p.2)))

      pub no_kind_there : (e : Fault) → KindCame text (Err e) (kind_after row (drop n.at text)) → Whole (Err e)
      no_kind_there e d = behind_name (Err e) (λ a p q. faulty (KindIs text) (DefinitionIs text names) text (lastly a) e (kind_after row (drop n.at text)) d)

      module _ (k : Kinded) (d : KindCame text (Ok k) (kind_after row (drop n.at text))) where
        behind_kind : (r : Result Defined Fault)
            → ((a : Name) (y : Kind) → name_at text n.place ≡ a → n.attribute ≡ number_in names a → kind_of k.kind ≡ kind_number y → DefinitionCame text names r (lastly a y (drop k.at text)))
            → Whole r
        behind_kind r g =
            behind_name r
            (λ a p q. onwards (KindIs text) (DefinitionIs text names) text (lastly a) k (kind_after row (drop n.at text)) r d
            (λ y s i. subst (λ s. DefinitionCame text names r (lastly a y s)) i.0.rest (g a y p q i.1)))

        pub no_status_there : (e : Fault) → StatusCame text (Err e) (status_after (drop k.at text)) → Whole (Err e)
        no_status_there e f =
            behind_kind (Err e)
            (λ a y p q i. faulty (StatusIs text) (DefinitionIs text names) text (λ t. pure (record { name = a; kind = y; status = t })) e (status_after (drop k.at text)) f)

        pub all_there : (s : Stated) → StatusCame text (Ok s) (status_after (drop k.at text))
            → Whole (Ok (record { place = n.place; attribute = n.attribute; kind = k.kind; status = s.status; at = s.at }))
        all_there s f =
            behind_kind (Ok (record { place = n.place; attribute = n.attribute; kind = k.kind; status = s.status; at = s.at }))
            (λ a y p q i. onwards (StatusIs text) (DefinitionIs text names) text (λ t. pure (record { name = a; kind = y; status = t })) s (status_after (drop k.at text))
            (Ok (record { place = n.place; attribute = n.attribute; kind = k.kind; status = s.status; at = s.at })) f (λ t u z. (z.0, p, q, i, z.1)))
