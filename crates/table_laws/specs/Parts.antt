-- What a proper table has, part by part. Assumes nothing.
use Rattle.std.specs.Prelude.{◌≡◌, true, cond, ◌&&◌, List, ℕ, ◌+◌, ◌-◌, ◌*◌, ◌^◌, ◌≤◌, ◌<◌, leb, ltb, eqb, length, take, drop, get_or}
use Rattle.std.proofs.Common.{◌∙◌, eqb-true, ltb-true, lt-ltb, leb-true, le-leb, get_or-take, get_or-drop}
use Rattle.std.proofs.Math.Bool.{and-eq-true_iff}
use Rattle.std.proofs.lemmas.Bool.{lt-leb}
use Rattle.paper.specs.Basics.{most_elements, most_names, between, every, all}
use Rattle.paper_laws.specs.Basics.{every_iff, all_at}
use Rattle.paper.specs.Table.{table_length, block_length, fixed_at, block, cell, kind_at, count_at, no_child_at, first_at, last_at, names_at, follow_at, zeros, proper_sets, proper_next, proper_model, proper_block, proper_fixed, fixed_part, proper}

-- ---- the table

pub record ProperTable (t : List ℕ) : Type 0 where
  pub long : length t ≡ table_length
  pub some_elements : 1 ≤ get_or t 0 0
  pub few_elements : get_or t 0 0 ≤ most_elements
  pub root_below : get_or t 1 0 < get_or t 0 0
  pub blocks : (e : ℕ) → e < get_or t 0 0 → proper_block (get_or t 0 0) (block t e) ≡ true
  pub unused : zeros (drop (2 + get_or t 0 0 * block_length) (take fixed_at t)) ≡ true
  pub fixed : proper_fixed t (fixed_part t) ≡ true

pub table_parts : (t : List ℕ) → proper t ≡ true → ProperTable t
unfolding proper
table_parts t e =
    let E : ℕ = get_or t 0 0 in
    let (d, fixed) = (and-eq-true_iff _ (proper_fixed t (fixed_part t))).0 e in
    let (f, unused) = (and-eq-true_iff _ (zeros (drop (2 + E * block_length) (take fixed_at t)))).0 d in
    let (g, blocks) = (and-eq-true_iff _ (every (λ e. proper_block E (block t e)) E)).0 f in
    let (h, root) = (and-eq-true_iff _ (ltb (get_or t 1 0) E)).0 g in
    let (long, range) = (and-eq-true_iff (eqb (length t) table_length) (between 1 most_elements E)).0 h in
    let (low, high) = (and-eq-true_iff (leb 1 E) (leb E most_elements)).0 range in
    record {
      long = eqb-true (length t) table_length long;
      some_elements = leb-true 1 E low;
      few_elements = leb-true E most_elements high;
      root_below = ltb-true (get_or t 1 0) E root;
      blocks = (every_iff (λ e. proper_block E (block t e)) E).0 blocks;
      unused = unused;
      fixed = fixed;
    }

-- ---- a block

-- of kind 2
pub record ProperModel (E : ℕ) (b : List ℕ) : Type 0 where
  pub some_names : 1 ≤ cell b count_at
  pub few_names : cell b count_at ≤ most_names
  pub flag : cell b no_child_at ≤ 1
  pub first_set : proper_next (cell b count_at) (take (cell b count_at) (drop names_at b)) (cell b first_at) ≡ true
  pub last_set : cell b last_at < 2 ^ cell b count_at
  pub names_below : all (λ a. ltb a E) (take (cell b count_at) (drop names_at b)) ≡ true
  pub names_unused : zeros (take (most_names - cell b count_at) (drop (names_at + cell b count_at) b)) ≡ true
  pub follow_sets : all (proper_next (cell b count_at) (take (cell b count_at) (drop names_at b))) (take (cell b count_at) (drop follow_at b)) ≡ true
  pub follow_unused : zeros (drop (follow_at + cell b count_at) b) ≡ true

pub model_parts : (E : ℕ) (b : List ℕ) → proper_model E b ≡ true → ProperModel E b
unfolding proper_model
model_parts E b e =
    let n : ℕ = cell b count_at in
    let used : List ℕ = take n (drop names_at b) in
    let (e, follow_unused) = (and-eq-true_iff _ (zeros (drop (follow_at + n) b))).0 e in
    let (e, follow_sets) = (and-eq-true_iff _ (all (proper_next n used) (take n (drop follow_at b)))).0 e in
    let (e, names_unused) = (and-eq-true_iff _ (zeros (take (most_names - n) (drop (names_at + n) b)))).0 e in
    let (e, names_below) = (and-eq-true_iff _ (all (λ a. ltb a E) used)).0 e in
    let (e, last_set) = (and-eq-true_iff _ (ltb (cell b last_at) (2 ^ n))).0 e in
    let (e, first_set) = (and-eq-true_iff _ (proper_next n used (cell b first_at))).0 e in
    let (e, flag) = (and-eq-true_iff (between 1 most_names n) (leb (cell b no_child_at) 1)).0 e in
    let (low, high) = (and-eq-true_iff (leb 1 n) (leb n most_names)).0 e in
    record {
      some_names = leb-true 1 n low;
      few_names = leb-true n most_names high;
      flag = leb-true (cell b no_child_at) 1 flag;
      first_set = first_set;
      last_set = ltb-true (cell b last_at) (2 ^ n) last_set;
      names_below = names_below;
      names_unused = names_unused;
      follow_sets = follow_sets;
      follow_unused = follow_unused;
    }

-- the kind of a proper block: below 2, and all from n on is 0; or 2, and a model
pub record ProperBlock (E : ℕ) (b : List ℕ) : Type 0 where
  pub sets : proper_sets b ≡ true
  pub plain : cell b kind_at ≤ 1 → zeros (drop count_at b) ≡ true
  pub modelled : 1 < cell b kind_at → (cell b kind_at ≡ 2) × ProperModel E b

pub block_parts : (E : ℕ) (b : List ℕ) → proper_block E b ≡ true → ProperBlock E b
unfolding proper_block
block_parts E b e =
    let k : ℕ = cell b kind_at in
    let (sets, rest) = (and-eq-true_iff (proper_sets b) (cond (leb k 1) (zeros (drop count_at b)) (eqb k 2 && proper_model E b))).0 e in
    record {
      sets = sets;
      plain = λ h. rw (le-leb k 1 h) at rest;
      modelled = λ h. let (two, m) = (and-eq-true_iff (eqb k 2) (proper_model E b)).0 (rw (lt-leb k 1 h) at rest) in (eqb-true k 2 two, model_parts E b m);
    }

-- the name of an occurrence
pub name_below : (E : ℕ) (b : List ℕ) → 1 ≤ E → ProperModel E b → (k : ℕ) → k < cell b count_at → cell b (names_at + k) < E
name_below E b h m k i =
    let n : ℕ = cell b count_at in
    let t = all_at (λ a. ltb a E) (lt-ltb 0 E h) (take n (drop names_at b)) m.names_below k in
    let same : get_or (take n (drop names_at b)) k 0 ≡ cell b (names_at + k) = get_or-take n (drop names_at b) k 0 i ∙ get_or-drop names_at b k 0 in
    ltb-true (cell b (names_at + k)) E (rw same at t)
