-- Reader and writer: every answer is a number of the paper. Assumes nothing.
use Rattle.std.specs.Prelude.{◌≡◌, refl, Bool, true, false, cond, ◌||◌, List, [], ◌∷◌, ℕ, zero, suc, min, T, leb, ltb, eqb, length}
use Rattle.std.proofs.Common.{subst, sym}
use Rattle.paper.specs.Basics.{most_tokens, all, elem}
use Rattle.paper.specs.Files.{largest, Front, broken, got, front, file_of, Result, refused, made, Counted, counted, put, tokens_in, reading, writing, read, write}
use Rattle.paper.specs.Answers.{Answers, reader_answers, writer_answers}
use Rattle.paper.specs.Calls.{Reads, Writes}

-- a refusal's number is one of l
abbrev pub Refuses : List ℕ → Result → Type 0
Refuses l (refused k) = T (elem k l)
Refuses l (made x) = Unit {0}

put_refuses : (l : List ℕ) (n : ℕ) (r : Result) → Refuses l r → Refuses l (put n r)
put_refuses l n (refused k) h = h
put_refuses l n (made x) h = tt

abbrev of_reader : List ℕ
of_reader = 1 ∷ 5 ∷ []

tokens_refuse : (room : ℕ) (s : List ℕ) → Refuses of_reader (tokens_in room s)
tokens_refuse zero [] = tt
tokens_refuse zero (b ∷ s) = go (front (b ∷ s))
  where
    go : (f : Front) → Refuses of_reader (elim f [ broken ↦ refused 1 | got n r ↦ refused 5 ])
    go broken = tt
    go (got n r) = tt
tokens_refuse (suc room) [] = tt
tokens_refuse (suc room) (b ∷ s) = go (front (b ∷ s)) (tokens_refuse room)
  where
    go : (f : Front) → ((r : List ℕ) → Refuses of_reader (tokens_in room r)) → Refuses of_reader (elim f [ broken ↦ refused 1 | got n r ↦ put n (tokens_in room r) ])
    go broken h = tt
    go (got n r) h = put_refuses of_reader n (tokens_in room r) (h r)

pub counted_answers : (l : List ℕ) (r : Result) (buffer : List ℕ) (o : Counted) → Refuses l r → o ≡ counted r buffer → Answers (0 ∷ l) o.number 0
counted_answers l (refused k) buffer o h e = let n : o.number ≡ k = cc in record { one_of = subst (λ x. T (elem x (0 ∷ l))) (sym n) (or_right (eqb k 0) (elem k l) h); no_place = λ c. refl }
  where
    or_right : (a b : Bool) → T b → T (a || b)
    or_right true b t = tt
    or_right false b t = t
counted_answers l (made x) buffer o h e = let n : o.number ≡ 0 = cc in record { one_of = rw n tt; no_place = λ c. refl }

pub read_answers : (file buffer : List ℕ) (o : Counted) → Reads file buffer o → Answers reader_answers o.number 0
unfolding read reading
read_answers file buffer o e = counted_answers of_reader (reading file buffer) buffer o (tokens_refuse (min (length buffer) most_tokens) file) e

writing_refuses : (tokens buffer : List ℕ) → Refuses (4 ∷ 5 ∷ []) (writing tokens buffer)
unfolding writing
writing_refuses tokens buffer = go (ltb most_tokens (length tokens)) (all (λ t. leb t largest) tokens) (leb (length (file_of tokens)) (length buffer))
  where
    go : (a b c : Bool) → Refuses (4 ∷ 5 ∷ []) (cond a (refused 5) (cond b (cond c (made (file_of tokens)) (refused 5)) (refused 4)))
    go true b c = tt
    go false true true = tt
    go false true false = tt
    go false false c = tt

pub write_answers : (tokens buffer : List ℕ) (o : Counted) → Writes tokens buffer o → Answers writer_answers o.number 0
unfolding write
write_answers tokens buffer o e = counted_answers (4 ∷ 5 ∷ []) (writing tokens buffer) buffer o (writing_refuses tokens buffer) e
