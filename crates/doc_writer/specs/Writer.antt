-- The passes of the writer. Assumes nothing.
use Rattle.std.specs.Prelude.{◌≡◌, refl, Bool, true, false, not, ◌&&◌, List, [], ◌∷◌, ℕ, ◌+◌, ◌*◌, ◌≤◌, ◌<◌, leb, length, drop, get_or}
use Rattle.std.proofs.Math.Path.{sym}
use Rattle.std.proofs.Common.{ap, ◌∙◌, arith, add-one, length-append, drop_of_length-le, drop-cons}
use Rattle.std.proofs.Math.Bool.{and-true, and_assoc, and-eq-true_iff}
use borrow.Author.Tests.{lt-ltb, le-ltb, leb-true, le-leb, lt-leb, not-true, not-false}
use Rattle.std.proofs.lemmas.List.Edits.{sets}
use Rattle.std.proofs.Math.Seq.{length-sets}
use Rattle.paper.specs.Basics.{most_tokens}
use Rattle.paper.specs.Files.{largest, bytes_of, file_of, writing, write}
use Rattle.numbers.specs.Store.{Storable, stored, most_wide}
use Rattle.docfile.specs.declared.Count.{Count}
use Rattle.docfile.specs.Outcome.{outcome, answer, laid, lay_none, lay_more, small}

-- the tokens have bytes, and there is room for them
pub record Ready (tokens file : List ℕ) : Type 0 where
  pub fit : small tokens ≡ true
  pub room : length (file_of tokens) ≤ length file

-- ---- the passes

module _ (tokens : List ℕ) where
  -- the token at a place, and those after it
  token : (i : ℕ) → i < length tokens → drop i tokens ≡ get_or tokens i 0 ∷ drop (i + 1) tokens
  token i h = rw add-one (drop-cons tokens i 0 h)

  -- the first i are small, or not; the others are asked
  pub record Seeking (i : ℕ) (fine : Bool) : Type 0 where
    pub within : i ≤ length tokens
    pub same : small tokens ≡ (fine && small (drop i tokens))

  pub seek_none : Seeking 0 true
  seek_none = record { within = omega arith; same = refl }

  pub seek_more : {i : ℕ} {fine : Bool} → Seeking i fine → i < length tokens → Seeking (i + 1) (fine && leb (get_or tokens i 0) largest)
  seek_more {i} {fine} c l = record {
    within = omega arith;
    same = c.same ∙ rw (token i l) (sym (and_assoc fine (leb (get_or tokens i 0) largest) (small (drop (i + 1) tokens))));
  }

  pub seek_end : {i : ℕ} {fine : Bool} → Seeking i fine → length tokens ≤ i → fine ≡ small tokens
  seek_end {fine = fine} c l = sym (c.same ∙ rw (drop_of_length-le tokens l) (and-true fine))

  -- the bytes of all tokens, where those of the first i are n
  pub record Adding (i n : ℕ) : Type 0 where
    pub within : i ≤ length tokens
    pub few : n ≤ 3 * i
    pub same : length (file_of tokens) ≡ n + length (file_of (drop i tokens))

  pub add_none : Adding 0 0
  add_none = record { within = omega arith; few = omega arith; same = omega arith }

  pub add_more : {i n w : ℕ} → Adding i n → i < length tokens → w ≡ length (bytes_of (get_or tokens i 0)) → Adding (i + 1) (n + w)
  add_more {i} {n} {w} c l e =
      let k : w ≤ 3 = rw e (most_wide (get_or tokens i 0)) in
      record {
        within = omega arith;
        few = omega (arith, c.few);
        same = c.same ∙ rw (token i l) (omega (arith, length-append (bytes_of (get_or tokens i 0)) (file_of (drop (i + 1) tokens))));
      }

  pub add_end : {i n : ℕ} → Adding i n → length tokens ≤ i → n ≡ length (file_of tokens)
  add_end c l = sym (c.same ∙ rw (drop_of_length-le tokens l) (omega arith))

-- ---- putting

-- the bytes of i tokens are put, up to a place; those of the others are laid after them
pub record Storing (tokens before : List ℕ) (at i : ℕ) (file : List ℕ) : Type 0 where
  pub within : i ≤ length tokens
  pub long : length file ≡ length before
  pub room : at + length (file_of (drop i tokens)) ≤ length file
  pub fit : small (drop i tokens) ≡ true
  pub same : laid 0 (file_of tokens) before ≡ laid at (file_of (drop i tokens)) file

module _ (tokens before : List ℕ) where
  pub store_none : Ready tokens before → Storing tokens before 0 0 before
  store_none r = record { within = omega arith; long = refl; room = omega arith; fit = r.fit; same = refl }

  module _ {at i : ℕ} {file : List ℕ} (c : Storing tokens before at i file) where
    pub store_end : length tokens ≤ i → file ≡ laid 0 (file_of tokens) before
    store_end h = rw (c.same, drop_of_length-le tokens h, lay_none)

    module _ (h : i < length tokens) where
      sizes : at + length (bytes_of (get_or tokens i 0)) + length (file_of (drop (i + 1) tokens)) ≤ length file
      sizes = omega (arith, length-append (bytes_of (get_or tokens i 0)) (file_of (drop (i + 1) tokens)), rw (token tokens i h) at c.room)

      parts : (leb (get_or tokens i 0) largest ≡ true) × (small (drop (i + 1) tokens) ≡ true)
      parts = (and-eq-true_iff (leb (get_or tokens i 0) largest) (small (drop (i + 1) tokens))).0 (rw (token tokens i h) at c.fit)

      pub store_fits : Storable file at (get_or tokens i 0)
      store_fits = record { small = leb-true (get_or tokens i 0) largest parts.0; room = omega (arith, sizes) }

      pub store_more : {next : ℕ} {after : List ℕ} → (next, after) ≡ stored file at (get_or tokens i 0) → Storing tokens before next (i + 1) after
      store_more {next} {after} s =
          let place : next ≡ at + length (bytes_of (get_or tokens i 0)) = ap (λ (o : ℕ × List ℕ). o.0) s in
          let put : after ≡ sets file at (bytes_of (get_or tokens i 0)) = ap (λ (o : ℕ × List ℕ). o.1) s in
          let n : length after ≡ length file = rw put (length-sets file at (bytes_of (get_or tokens i 0))) in
          record {
            within = omega arith;
            long = n ∙ c.long;
            room = omega (arith, n, sizes);
            fit = parts.1;
            same = c.same ∙ rw (token tokens i h, place, put) (lay_more at file (bytes_of (get_or tokens i 0)) (file_of (drop (i + 1) tokens)) store_fits.room);
          }

-- ---- the answers

pub file_long : (l : List ℕ) → length (file_of l) ≤ 3 * length l
file_long [] = omega arith
file_long (t ∷ l) = omega (arith, length-append (bytes_of t) (file_of l), most_wide t, file_long l)

module _ (tokens buffer : List ℕ) where
  pub write_many : most_tokens < length tokens → outcome (answer 5 0) buffer ≡ write tokens buffer
  unfolding write writing
  write_many h = rw (lt-ltb most_tokens (length tokens) h)

  module _ (few : length tokens ≤ most_tokens) {s : Bool} (e : s ≡ small tokens) where
    pub write_large : not s ≡ true → outcome (answer 4 0) buffer ≡ write tokens buffer
    unfolding write writing
    write_large l = rw (le-ltb most_tokens (length tokens) few, sym e ∙ not-true s l)

    module _ (l : not s ≡ false) {n : ℕ} (c : n ≡ length (file_of tokens)) where
      fit : small tokens ≡ true
      fit = sym e ∙ not-false s l

      pub write_full : length buffer < n → outcome (answer 5 0) buffer ≡ write tokens buffer
      unfolding write writing
      write_full r = rw (le-ltb most_tokens (length tokens) few, fit, lt-leb (length (file_of tokens)) (length buffer) (omega arith))

      module _ (r : n ≤ length buffer) where
        pub write_ready : Ready tokens buffer
        write_ready = record { fit = fit; room = omega arith }

        pub write_done : {after : List ℕ} → after ≡ laid 0 (file_of tokens) buffer → outcome (answer 0 n) after ≡ write tokens buffer
        unfolding write writing
        write_done a = rw (le-ltb most_tokens (length tokens) few, fit, le-leb (length (file_of tokens)) (length buffer) (omega arith), a, c)
