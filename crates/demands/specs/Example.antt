-- The demands are not empty: the small shade and its five edits, by the contracts of the library. Assumes nothing.
use Rattle.std.specs.Prelude.{refl, List, [], ◌∷◌, ℕ, ℤ}
use Rattle.std.specs.Borrow.{Bor, MutBor}
use Rattle.paper.specs.Table.{table_of, translate}
use Rattle.paper.specs.Edits.{Request, Outcome, edit}
use Rattle.paper.specs.SmallShade.{buffer, second, counts}
use Rattle.contracts.specs.{Allows}
use Rattle.promises.specs.Right.{EachRight}
use Rattle.promises.specs.Statements.{Translated, Runs}
use Rattle.promises.proofs.Example as example
use Rattle.shrikemuff.proofs.Contracts.{shrike_translate, shrike_edit}
use Rattle.demands.specs.Shrikes.{shrikes}
use Rattle.demands.specs.Theorems.{demand_3}

-- ---- the contracts allow the paper's outcomes

-- a list that is lent: where it lies does not matter
abbrev lent : List ℕ → Bor (List ℕ)
lent l = record { ref_ptr = (0, 0); now = l }

-- .. and one that is lent to be written
abbrev lent_mut : List ℕ → MutBor (List ℕ)
lent_mut l = record { ref_ptr = (0, 0); ghost_name = 0; now = l }

-- .. and of counts
abbrev lentℤ : List ℤ → MutBor (List ℤ)
lentℤ l = record { ref_ptr = (0, 0); ghost_name = 0; now = l }

translates : (file table : List ℕ) → Allows shrike_translate (file, table) (translate file table)
translates file table = let o : ℕ × List ℕ = translate file table in record {
  κs = ([], ([], tt));
  given = (lent file, (lent_mut table, tt));
  result = o.0;
  after = (lent file, (lent_mut o.1, tt));
  its_input = refl;
  its_outcome = refl;
  told = refl;
}

performs : (table buffer : List ℕ) (used : ℕ) (q : Request) (second : List ℕ) (counts : List ℤ)
    → Allows shrike_edit (table, buffer, used, q, second, counts) (edit table buffer used q second counts)
performs table buffer used q second counts = let o : Outcome = edit table buffer used q second counts in record {
  κs = ([], ([], ([], ([], ([], tt)))));
  given = (lent table, (lent_mut buffer, (used, (q.operation, (q.place, (lent q.piece, (lent_mut second, (lentℤ counts, tt))))))));
  result = record { number = o.number; place = o.place; used = o.used; change = o.change; children = o.children };
  after = (lent table, (lent_mut o.buffer, (used, (q.operation, (q.place, (lent q.piece, (lent_mut o.back, (lentℤ o.counts, tt))))))));
  its_input = refl;
  its_outcome = refl;
  told = refl;
}

-- ---- the premises

translated : Translated shrikes example.schema (table_of example.schema)
translated = let t = example.translated in record {
  file = t.file;
  lent = t.lent;
  left = t.left;
  bytes = t.bytes;
  reads = t.reads;
  translates = rw t.translates (translates t.file t.lent);
}

runs : (table buffer : List ℕ) (used : ℕ) (counts : List ℤ) (l : List Request) → Runs shrikes table buffer used counts (example.made table buffer used counts l)
runs table buffer used counts [] = tt
runs table buffer used counts (q ∷ l) =
    let o : Outcome = edit table buffer used q second counts in (performs table buffer used q second counts, runs table o.buffer o.used o.counts l)

-- ---- what is promised

pub each_right : EachRight example.schema buffer 15 counts example.run
each_right = demand_3 example.schema (table_of example.schema) translated buffer 15 example.valid counts example.counted example.run
    (runs (table_of example.schema) buffer 15 counts example.requests)
