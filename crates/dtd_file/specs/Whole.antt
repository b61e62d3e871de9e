-- The whole file: the count of elements, the root, and the elements. Assumes nothing.
use Rattle.std.specs.Prelude.{◌≡◌, refl, List, [], ◌∷◌, ◌++◌, ℕ, ◌≤◌, ◌<◌, length, set}
use Rattle.std.proofs.Common.{sym, ap, ap₂, ◌∙◌, arith, length-set}
use Rattle.paper.specs.Files.{bytes_of}
use Rattle.paper.specs.Dtd.Declarations.{Declaration}
use Rattle.paper.specs.Dtd.Imported.{schema_file}
use Rattle.paper.specs.Dtd.Numbering.{elements_from}
use Rattle.numbers.specs.Store.{bytes_one}
use Rattle.lines.specs.Put.{Put, put_both, put_as}
use Rattle.dtd_file.specs.Filed.{Filed, Files, FilePut}
use Rattle.dtd_file.specs.Lists.{rest_bytes, elements_count, names_count}
use Rattle.dtd_file.specs.Turns.{ElementsPut}

module _ (text elements contents ends rows out : List ℕ) where
  -- of the buffer its length alone is told
  filed_in : (mid : List ℕ) → length mid ≡ length out → (ds : List Declaration) → Filed text elements contents ends rows out ds
      → Filed text elements contents ends rows mid ds
  filed_in mid l ds f = record {
    few = f.few;
    some_contents = f.some_contents;
    some_ends = f.some_ends;
    some_rows = f.some_rows;
    long = l ∙ f.long;
    names = f.names;
    few_attributes = f.few_attributes;
    stand = f.stand;
  }

  abbrev headed : List ℕ
  headed = set (set out 0 (length elements)) 1 0

  head_long : (a b : ℕ) → length (set (set out 0 a) 1 b) ≡ length out
  head_long a b = length-set (set out 0 a) 1 b ∙ length-set out 0 a

  pub files_in : (a b : ℕ) → Files text elements contents ends rows out → Files text elements contents ends rows (set (set out 0 a) 1 b)
  files_in a b s = record { ds = s.ds; filed = filed_in (set (set out 0 a) 1 b) (head_long a b) s.ds s.filed }

  file_is : (ds : List Declaration) → Filed text elements contents ends rows out ds → schema_file ds ≡ length elements ∷ 0 ∷ rest_bytes ds ds
  file_is ds f =
      let e : length (elements_from ds ds) ≡ length elements = elements_count ds ds ∙ names_count text elements contents ends rows out ds f in
      ap₂ (λ x y. x ++ (y ++ rest_bytes ds ds)) (ap bytes_of e ∙ bytes_one (length elements) (omega (arith, f.few))) (bytes_one 0 (omega arith))

  pub file_put : (r : ℕ) (after : List ℕ) → ElementsPut text elements contents ends rows (set (set out 0 (length elements)) 1 0) r after
      → FilePut text elements contents ends rows out r after
  file_put r after p ds f =
      let h : Put out 0 (length elements ∷ 0 ∷ []) 2 headed = record { place = refl; within = omega (arith, f.long); bytes = refl } in
      put_as (put_both h (p ds (filed_in headed (head_long (length elements) 0) ds f))) (sym (file_is ds f))
