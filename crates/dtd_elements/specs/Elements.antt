-- An ELEMENT declaration: its head, its content, its end; and where its parts stand. Assumes nothing.
use Rattle.std.specs.Prelude.{◌≡◌, refl, Bool, true, ◌&&◌, Result, Ok, Err, List, ℕ, ◌≤◌, length, drop}
use Rattle.std.proofs.Common.{◌∙◌}
use Rattle.std.proofs.Math.Bool.{and-eq-true_iff}
use Rattle.paper.specs.Dtd.Letters.{Name, word_element}
use Rattle.paper.specs.Dtd.Declarations.{each, Content, empty, text as pcdata, model, Declaration, element, element_names}
use Rattle.paper.specs.Dtd.Readers.{Read, stop, ok, Reader, onward, ◌>>=◌, ◌>>◌, pure, literal, S}
use Rattle.paper.specs.Dtd.Reading.{contentspec, elementdecl}
use Rattle.paper.specs.Dtd.Limits.{content_kept}
use Rattle.paper.specs.Dtd.Numbering.{model_fits}
use Rattle.dtd_laws.specs.Contents.{content_exact}
use Rattle.dtd_words.specs.declared.Fault.{Fault}
use Rattle.dtd_words.specs.Words.{Came}
use Rattle.dtd_names.specs.Named.{name_at}
use Rattle.dtd_contents.specs.declared.Specification.{Specification}
use Rattle.dtd_contents.specs.Contents.{Specified, told}
use Rattle.dtd_elements.specs.declared.Head.{Head}
use Rattle.dtd_elements.specs.declared.Element.{Element}
use Rattle.dtd_elements.specs.Steps.{Gave, Went, went, failed, broke_off}
use Rattle.dtd_elements.specs.Heads.{ending, new_name, after_name, after_space, heading}
use Rattle.dtd_elements.specs.Stored.{ContentAt}

module _ (known : Name → Bool) where
  -- behind the content, and behind the head
  abbrev pub after_content : Name → Content → Reader Declaration
  after_content n c = do
    ending
    pure (element n c)

  abbrev pub after_head : Name → Reader Declaration
  after_head n = do
    c ← contentspec known
    after_content n c

  -- an ELEMENT declaration behind `<!`, after names that were declared
  abbrev pub element_after : List Name → Reader Declaration
  element_after names = do
    n ← heading names
    after_head n

  -- ---- the reader of the paper, grouped so

  name_grouped : (n : Name) (s : List ℕ) → onward (S s) (λ u. after_head n) ≡ onward (after_name n s) after_head
  name_grouped n s = by (S s)
    where
      by : (x : Read (Unit {0})) → onward x (λ u. after_head n) ≡ onward (onward x (λ u. pure n)) after_head
      by (stop k r) = refl
      by (ok u r) = refl

  space_grouped : (names : List Name) (s : List ℕ) → onward (new_name names s) (λ n t. onward (S t) (λ u. after_head n)) ≡ onward (after_space names s) after_head
  space_grouped names s = by (new_name names s)
    where
      by : (x : Read Name) → onward x (λ n t. onward (S t) (λ u. after_head n)) ≡ onward (onward x after_name) after_head
      by (stop k r) = refl
      by (ok n r) = name_grouped n r

  pub element_grouped : (old : List Declaration) (s : List ℕ) → elementdecl known old s ≡ element_after (element_names old) s
  element_grouped old s = tail old s ∙ word (literal word_element s)
    where
      word : (x : Read (Unit {0}))
          → onward x (λ u t. onward (S t) (λ v r. onward (new_name (element_names old) r) (λ n q. onward (S q) (λ w. after_head n))))
          ≡ onward (onward (onward x (λ u. S)) (λ v. after_space (element_names old))) after_head
      word (stop k r) = refl
      word (ok u t) = by (S t)
        where
          by : (y : Read (Unit {0}))
              → onward y (λ v r. onward (new_name (element_names old) r) (λ n q. onward (S q) (λ w. after_head n)))
              ≡ onward (onward y (λ v. after_space (element_names old))) after_head
          by (stop k r) = refl
          by (ok v r) = space_grouped (element_names old) r

      tail : (old : List Declaration) (s : List ℕ)
          → elementdecl known old s
          ≡ onward (literal word_element s) (λ u t. onward (S t) (λ v r. onward (new_name (element_names old) r) (λ n q. onward (S q) (λ w. after_head n))))
      tail old s = refl

-- ---- step by step

-- an element of that name, whose content stands from p to before q
pub record Stands (text : List ℕ) (name p q : ℕ) (d : Declaration) : Type 0 where
  pub content : Content
  pub is : d ≡ element (name_at text name) content
  pub stands : ContentAt text p q content

module _ (text : List ℕ) (at : ℕ) (known : Name → Bool) (names : List Name) where
  abbrev Of : Head → Name → Type 0
  Of h n = n ≡ name_at text h.name

  abbrev Is : Element → Declaration → Type 0
  Is e d = Stands text e.name e.content e.end d

  abbrev Made : Result Element Fault → Type 0
  Made r = Gave (λ e. e.at) Is text r (element_after known names (drop at text))

  pub no_head : (f : Fault) → Gave (λ h. h.at) Of text (Err f) (heading names (drop at text)) → Made (Err f)
  no_head f x = failed text (λ h. h.at) Of (λ e. e.at) Is (after_head known) f (heading names (drop at text)) x

  module _ (h : Head) (x : Gave (λ h. h.at) Of text (Ok h) (heading names (drop at text))) where
    head_read : Went text (λ h. h.at) Of h (heading names) (drop at text)
    head_read = went text (λ h. h.at) Of h (heading names) (drop at text) x

    pub head_inside : h.at ≤ length text
    head_inside = head_read.inside

    abbrev Told : Specification → Content → Type 0
    Told v c = v.content ≡ told c

    pub no_content : (f : Fault) → Specified text (Err f) (contentspec known (drop h.at text)) → Made (Err f)
    no_content f y =
        rw head_read.read
        (failed text (λ v. v.at) Told (λ e. e.at) Is (after_content known head_read.value) f (contentspec known (drop h.at text)) y)

    -- c: the content
    module _ (c : Specification) (y : Specified text (Ok c) (contentspec known (drop h.at text))) where
      content_read : Went text (λ v. v.at) Told c (contentspec known) (drop h.at text)
      content_read = went text (λ v. v.at) Told c (contentspec known) (drop h.at text) y

      pub content_inside : c.at ≤ length text
      content_inside = content_read.inside

      stands : ContentAt text h.at c.at content_read.value
      stands =
          let (s, f) = (content_exact known model_fits {n = 0}).gives content_read.read in
          record { spelled = s; inside = content_read.inside; fits = kept content_read.value f }
        where
          kept : (c : Content) → content_kept (λ p. each p known && model_fits p) c ≡ true → content_kept model_fits c ≡ true
          kept empty f = refl
          kept pcdata f = refl
          kept (model p) f = ((and-eq-true_iff (each p known) (model_fits p)).0 f).1

      pub no_end : (f : Fault) → Came text (Err f) (ending (drop c.at text)) → Made (Err f)
      no_end f z =
          rw (head_read.read, content_read.read)
          (broke_off text (λ e. e.at) Is (λ u. pure (element head_read.value content_read.value)) f (ending (drop c.at text)) z)

      pub made : (e : ℕ) → Came text (Ok e) (ending (drop c.at text)) → Made (Ok (record { name = h.name; content = h.at; end = c.at; at = e }))
      made e z = rw (head_read.read, content_read.read) (by (ending (drop c.at text)) z)
        where
          by : (q : Read (Unit {0})) → Came text (Ok e) q
              → Gave (λ e. e.at) Is text (Ok (record { name = h.name; content = h.at; end = c.at; at = e })) (onward q (λ u. pure (element head_read.value content_read.value)))
          by (stop k r) g = absurd g
          by (ok u r) m = (m, record { content = content_read.value; is = rw head_read.holds; stands = stands })
