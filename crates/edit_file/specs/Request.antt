-- An edit, read at a place of the edit file. Assumes nothing.
use Rattle.std.specs.Prelude.{◌≡◌, ◌⊎◌, Result, Ok, Err, List, ℕ, ◌+◌, ◌≤◌, ◌<◌, length, drop}
use Rattle.std.proofs.Math.Path.{refl}
use Rattle.std.proofs.Math.Logic.{inl}
use Rattle.std.proofs.Common.{sym, ◌∙◌, inr, arith, take_all}
use Rattle.std.proofs.lemmas.Slice.{take-put_mid}
use borrow.Author.Tests.{le-leb, lt-leb}
use Rattle.std.proofs.Math.ListN.{take}
use Rattle.paper.specs.Basics.{most_tokens}
use Rattle.paper.specs.Files.{largest}
use Rattle.paper.specs.Schema.{stop, ok}
use borrow.Rule.Slice.PartMut.{put_mid}
use Rattle.paper.specs.Program.{request}
use Rattle.paper.specs.Codes.{number_of}
use Rattle.paper.specs.declared.Refusal.{Refusal}
use Rattle.paper.specs.declared.Refusal.TheVariants.{Room}
use Rattle.numbers.specs.declared.Num.{Num}
use Rattle.reading.specs.Number.{Value, Refused}
use Rattle.edit_file.specs.declared.Edit.{Edit}
use Rattle.edit_file.specs.Piece.{PieceRead, PieceRefused}

module _ (file : List ℕ) (at : ℕ) (piece : List ℕ) where
  -- the edit at a place, of three bytes or more
  pub record EditRead (r : Edit) : Type 0 where
    pub reads : request (drop at file) ≡ ok (record { operation = r.operation; place = r.place; piece = take r.count piece }) (drop r.next file)
    pub within : r.next ≤ length file
    pub on : at + 3 ≤ r.next
    pub few : r.count ≤ most_tokens

  -- why there is none: a number is refused, or the piece is too long
  pub record EditRefused (e : Refusal) : Type 0 where
    pub stopped : request (drop at file) ≡ stop (number_of e)
    pub stops : (number_of e ≤ 2) ⊎ (number_of e ≡ 5)

  abbrev pub EditAt : Result Edit Refusal → Type 0
  EditAt (Ok r) = EditRead r
  EditAt (Err e) = EditRefused e

module _ (file : List ℕ) (at : ℕ) where
  pub edit_operation : {e : Refusal} (piece : List ℕ) → Refused 0 largest file at e → EditRefused file at piece e
  unfolding request
  edit_operation piece p = record { stopped = rw p.stopped; stops = inl p.few }

  module _ {o : Num} (operation : Value 0 largest file at o) where
    pub edit_place : {e : Refusal} (piece : List ℕ) → Refused 0 largest file o.next e → EditRefused file at piece e
    unfolding request
    edit_place piece p = record { stopped = rw (operation.reads, p.stopped); stops = inl p.few }

    module _ {w : Num} (place : Value 0 largest file o.next w) where
      pub edit_count : {e : Refusal} (piece : List ℕ) → Refused 0 largest file w.next e → EditRefused file at piece e
      unfolding request
      edit_count piece p = record { stopped = rw (operation.reads, place.reads, p.stopped); stops = inl p.few }

      module _ {n : Num} (count : Value 0 largest file w.next n) where
        pub edit_over : (piece : List ℕ) → most_tokens < n.value → EditRefused file at piece Room
        unfolding request
        edit_over piece h = record { stopped = rw (operation.reads, place.reads, count.reads, lt-leb n.value most_tokens h); stops = inr refl }

        -- the piece is read into the front of a buffer
        module _ (h : n.value ≤ most_tokens) {k : ℕ} (size : k ≡ n.value) {part : List ℕ} where
          pub edit_piece : {e : Refusal} (piece : List ℕ) → PieceRefused k file n.next part e → EditRefused file at piece e
          unfolding request
          edit_piece piece p = record { stopped = rw (operation.reads, place.reads, count.reads, le-leb n.value most_tokens h, ← size, p.stopped); stops = inl p.few }

          pub edit_made : {next : ℕ} (before : List ℕ) → PieceRead k file n.next part next → length part ≡ k
              → EditRead file at (put_mid 0 n.value before part) (record { next = next; operation = o.value; place = w.value; count = n.value })
          unfolding request
          edit_made {next} before p long =
              let all : take n.value (put_mid 0 n.value before part) ≡ take k part =
              take-put_mid 0 n.value before part n.value (omega arith) (omega arith) ∙ sym (take_all k part (omega arith)) in
              record {
                reads = rw (operation.reads, place.reads, count.reads, le-leb n.value most_tokens h, all, ← size, p.reads);
                within = p.within;
                on = omega (arith, operation.on, place.on, count.on, p.on);
                few = h;
              }
