-- "Tokens and shape": the shape of a document. Assumes nothing.
use Rattle.std.specs.Prelude.{Bool, true, false, cond, ◌&&◌, List, [], ◌∷◌, ℕ, zero, suc, leb, ltb, eqb, length, take}
use Rattle.paper.specs.declared.Tok.{Tok}
use Rattle.paper.specs.declared.Tok.TheVariants.{Start, End, Text, Attr, Value, Bad}
use Rattle.paper.specs.Basics.{most_tokens, most_deep}
use Rattle.paper.specs.Tokens.{toks, is_start, end_of, deep}

-- "attributes stand directly after their start, numbers strictly rising, each followed by one or more values; values stand
-- nowhere else": where a scan stands after each token. Head: directly after a start. Named a: after the attribute a.
-- Valued a: after a value of a. Body: where no attribute may stand. Fail: something stood where it may not.
pub data Phase : Type 0 where
  Head : Phase
  Named : ℕ → Phase
  Valued : ℕ → Phase
  Body : Phase
  Fail : Phase

abbrev pub head_of : Tok → Phase
head_of (Attr n) = Named n
head_of (Start n) = Head
head_of End = Body
head_of (Text n) = Body
head_of (Value n) = Fail
head_of Bad = Fail

abbrev pub named_of : ℕ → Tok → Phase
named_of a (Value v) = Valued a
named_of a (Start n) = Fail
named_of a End = Fail
named_of a (Text n) = Fail
named_of a (Attr n) = Fail
named_of a Bad = Fail

abbrev pub valued_of : ℕ → Tok → Phase
valued_of a (Value v) = Valued a
valued_of a (Attr n) = cond (ltb a n) (Named n) Fail
valued_of a (Start n) = Head
valued_of a End = Body
valued_of a (Text n) = Body
valued_of a Bad = Fail

abbrev pub content_of : Tok → Phase
content_of (Start n) = Head
content_of End = Body
content_of (Text n) = Body
content_of (Attr n) = Fail
content_of (Value n) = Fail
content_of Bad = Fail

abbrev pub phase_of : Phase → Tok → Phase
phase_of Head t = head_of t
phase_of (Named a) t = named_of a t
phase_of (Valued a) t = valued_of a t
phase_of Body t = content_of t
phase_of Fail t = Fail

abbrev pub phases : Phase → List Tok → Phase
phases p [] = p
phases p (t ∷ d) = phases (phase_of p t) d

abbrev pub is_body : Phase → Bool
is_body Body = true
is_body Head = false
is_body (Named a) = false
is_body (Valued a) = false
is_body Fail = false

-- "token 0 is a start and its end is the last used token", and attributes and values stand where they may; the phases also
-- see to it that every token is one
unfoldable pub is_element : List Tok → Bool
is_element d = is_start d && eqb (suc (end_of d zero)) (length d) && is_body (phases Body d)

-- "at most 64 deep with the root at 1"
abbrev pub shallow : List Tok → Bool
shallow d = leb (deep zero d) most_deep

-- "A document has shape if: its used length is 2 to 8,192 and no more than the buffer; every token is as above; token 0 is a
-- start and its end is the last used token; starts and ends balance, at most 64 deep [..]"
unfoldable pub shape_of : List ℕ → ℕ → Bool
shape_of buf used =
    leb 2 used && leb used most_tokens && leb used (length buf) && is_element (toks (take used buf)) && shallow (toks (take used buf))
