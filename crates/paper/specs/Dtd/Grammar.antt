-- Which texts spell which declarations: the productions of XML 1.0 (fifth edition), cut down to item 4's subset. Assumes nothing.
--
-- A spelling relates the text from a place on to the text after what is spelled: `A ⨾ B` is A, and then B. White space, a name and
-- the absence of a suffix reach as far as they can; as no production lets more of the same follow, that excludes nothing.
use Rattle.std.specs.Prelude.{◌≡◌, ◌⊎◌, Bool, true, false, not, ◌&&◌, ◌||◌, List, [], ◌∷◌, ◌++◌, ℕ, eqb}
use Rattle.paper.specs.Basics.{all}
use Rattle.paper.specs.Dtd.Letters.{is_white, is_first, is_more, Name, begins, alone, first_of_two, first_of_three, first_of_four, later, second, third}
use Rattle.paper.specs.Dtd.Letters.{hyphen, opening, closing, comma, bar, hash, greater, start_element, start_attlist, start_comment, end_comment}
use Rattle.paper.specs.Dtd.Letters.{word_empty, word_text, word_cdata, word_id, word_idref, word_idrefs, word_required, word_implied}
use Rattle.paper.specs.Dtd.Declarations.{Suffix, once, maybe, many, several, Part, word, sequence, choice, Parts, only, ◌and◌}
use Rattle.paper.specs.Dtd.Declarations.{Content, empty, text, model, Kind, cdata, id, idref, idrefs, Status, required, implied}
use Rattle.paper.specs.Dtd.Declarations.{Definition, Declaration, element, attlist}

abbrev pub Spelling : Type 1
Spelling = List ℕ → List ℕ → Type 0

infixr 20 ◌⨾◌
abbrev pub ◌⨾◌ : Spelling → Spelling → Spelling
◌⨾◌ A B = λ s r. (t : List ℕ) × A s t × B t r

-- ---- the smallest parts

abbrev pub literal : List ℕ → Spelling
literal l s r = s ≡ l ++ r

abbrev pub mark : ℕ → Spelling
mark b s r = s ≡ b ∷ r

abbrev pub byte : (ℕ → Bool) → ℕ → Spelling
byte P b s r = (s ≡ b ∷ r) × (P b ≡ true)

-- [3] S, and S?
abbrev pub S? : Spelling
S? s r = (w : List ℕ) × (s ≡ w ++ r) × (all is_white w ≡ true) × (begins is_white r ≡ false)

abbrev pub S : Spelling
S s r = (begins is_white s ≡ true) × S? s r

-- [5] Name, of item 4's bytes: "a name is the longest run of name characters"
abbrev pub name : Name → Spelling
name n s r = (s ≡ n ++ r) × (begins is_first n && all is_more n ≡ true) × (begins is_more r ≡ false)

-- ---- [45] to [51]: elements

-- ('?' | '*' | '+')?
abbrev pub suffix : Suffix → Spelling
suffix once s r = (s ≡ r) × (begins (λ b. eqb b 63 || eqb b 42 || eqb b 43) s ≡ false)
suffix maybe s r = mark 63 s r
suffix many s r = mark 42 s r
suffix several s r = mark 43 s r

-- [48] cp ::= (Name | choice | seq) ('?' | '*' | '+')?
-- [49] choice ::= '(' S? cp ( S? '|' S? cp )+ S? ')'
-- [50] seq ::= '(' S? cp ( S? ',' S? cp )* S? ')'
abbrev mutual
  pub cp : Part → List ℕ → List ℕ → Type 0
  cp (word n q) = name n ⨾ suffix q
  cp (sequence ps q) = mark opening ⨾ S? ⨾ cps ps comma ⨾ S? ⨾ mark closing ⨾ suffix q
  cp (choice p ps q) = mark opening ⨾ S? ⨾ cp p ⨾ S? ⨾ mark bar ⨾ S? ⨾ cps ps bar ⨾ S? ⨾ mark closing ⨾ suffix q

  -- cp ( S? separator S? cp )*
  pub cps : Parts → ℕ → List ℕ → List ℕ → Type 0
  cps (only p) j = cp p
  cps (p and ps) j = cp p ⨾ S? ⨾ mark j ⨾ S? ⨾ cps ps j

-- [47] children ::= (choice | seq) ('?' | '*' | '+')?
abbrev pub bracketed : Part → Bool
bracketed (word n q) = false
bracketed (sequence ps q) = true
bracketed (choice p ps q) = true

-- [46] contentspec ::= 'EMPTY' | 'ANY' | Mixed | children, without ANY
-- [51] Mixed ::= '(' S? '#PCDATA' (S? '|' S? Name)* S? ')*' | '(' S? '#PCDATA' S? ')', the last form alone
abbrev pub contentspec : Content → Spelling
contentspec empty = literal word_empty
contentspec text = mark opening ⨾ S? ⨾ literal word_text ⨾ S? ⨾ mark closing
contentspec (model p) = λ s r. (bracketed p ≡ true) × cp p s r

-- [45] elementdecl ::= '<!ELEMENT' S Name S contentspec S? '>'
abbrev pub elementdecl : Name → Content → Spelling
elementdecl n c = literal start_element ⨾ S ⨾ name n ⨾ S ⨾ contentspec c ⨾ S? ⨾ mark greater

-- ---- [52] to [60]: attributes

-- [54] AttType ::= StringType | TokenizedType | EnumeratedType, [55] 'CDATA', [56] 'ID' | 'IDREF' | 'IDREFS' and no other
abbrev pub kind_word : Kind → List ℕ
kind_word cdata = word_cdata
kind_word id = word_id
kind_word idref = word_idref
kind_word idrefs = word_idrefs

-- [60] DefaultDecl ::= '#REQUIRED' | '#IMPLIED' and no other
abbrev pub status_word : Status → List ℕ
status_word required = hash ∷ word_required
status_word implied = hash ∷ word_implied

-- [53] AttDef ::= S Name S AttType S DefaultDecl
abbrev pub att_def : Definition → Spelling
att_def d = S ⨾ name d.name ⨾ S ⨾ literal (kind_word d.kind) ⨾ S ⨾ literal (status_word d.status)

-- AttDef* S? '>'
abbrev pub att_defs : List Definition → Spelling
att_defs [] = S? ⨾ mark greater
att_defs (d ∷ ds) = att_def d ⨾ att_defs ds

-- [52] AttlistDecl ::= '<!ATTLIST' S Name AttDef* S? '>'
abbrev pub attlist_decl : Name → List Definition → Spelling
attlist_decl e ds = literal start_attlist ⨾ S ⨾ name e ⨾ att_defs ds

-- ---- [29], [31]: the text

-- [2] Char, but no '-'
abbrev pub char : Spelling
char s r =
    ((a : ℕ) × byte (λ a. alone a && not (eqb a hyphen)) a s r)
    ⊎ ((a : ℕ) × (b : ℕ) × (byte first_of_two a ⨾ byte later b) s r)
    ⊎ ((a : ℕ) × (b : ℕ) × (c : ℕ) × (byte first_of_three a ⨾ byte (second a) b ⨾ byte (third a b) c) s r)
    ⊎ ((a : ℕ) × (b : ℕ) × (c : ℕ) × (d : ℕ) × (byte first_of_four a ⨾ byte (second a) b ⨾ byte later c ⨾ byte later d) s r)

-- ((Char - '-') | ('-' (Char - '-')))*
pub data Inside : List ℕ → List ℕ → Type 0 where
  none : {s : List ℕ} → Inside s s
  plain : {s t r : List ℕ} → char s t → Inside t r → Inside s r
  hyphened : {s t r : List ℕ} → (mark hyphen ⨾ char) s t → Inside t r → Inside s r

-- [15] Comment ::= '<!--' ((Char - '-') | ('-' (Char - '-')))* '-->'
abbrev pub comment : Spelling
comment = literal start_comment ⨾ Inside ⨾ literal end_comment

-- [29] markupdecl ::= elementdecl | AttlistDecl | EntityDecl | NotationDecl | PI | Comment, the first two and the last
abbrev pub declaration : Declaration → Spelling
declaration (element n c) = elementdecl n c
declaration (attlist e ds) = attlist_decl e ds

-- [31] extSubsetDecl ::= ( markupdecl | conditionalSect | DeclSep)*, [28a] DeclSep ::= PEReference | S, the latter alone
pub data Spells : List Declaration → List ℕ → Type 0 where
  end : Spells [] []
  space : {ds : List Declaration} {s t : List ℕ} → S s t → Spells ds t → Spells ds s
  note : {ds : List Declaration} {s t : List ℕ} → comment s t → Spells ds t → Spells ds s
  declare : {d : Declaration} {ds : List Declaration} {s t : List ℕ} → declaration d s t → Spells ds t → Spells (d ∷ ds) s
