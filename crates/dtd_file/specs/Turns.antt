-- The elements put one after another. Assumes nothing.
use Rattle.std.specs.Prelude.{◌≡◌, refl, List, ℕ, ◌+◌, ◌≤◌, ◌<◌, length, get_or}
use Rattle.std.proofs.Common.{ap, arith, add-one, length-append}
use Rattle.paper.specs.Dtd.Declarations.{Declaration, element_names}
use Rattle.lines.specs.Put.{Put}
use Rattle.lines.specs.Putting.{Putting, putting_none, putting_more, putting_all}
use Rattle.dtd_rows.specs.declared.Row.{Row}
use Rattle.dtd_heads.specs.Heads.{row_at}
use Rattle.dtd_file.specs.Filed.{Stand, Filed, Files}
use Rattle.dtd_file.specs.Elements.{element_bytes, Ready, ElementPut}
use Rattle.dtd_file.specs.Lists.{rest_bytes, rest_none, rest_short, names_count, Next, next}

-- whichever declarations stand so in the text, their elements are put from place 2 on
abbrev pub ElementsPut : (text elements contents ends rows before : List ℕ) (r : ℕ) (after : List ℕ) → Type 0
ElementsPut text elements contents ends rows before r after =
    (ds : List Declaration) → Filed text elements contents ends rows before ds → Put before 2 (rest_bytes ds ds) r after

module _ (text elements contents ends rows before : List ℕ) where
  -- what is left to put is the elements of some of the declarations, the j-th and those after it
  pub record Filing (ds : List Declaration) (j at : ℕ) (out : List ℕ) : Type 0 where
    pub left : List Declaration
    pub stand : Stand text contents ends rows ds left j
    pub number : j + length (element_names left) ≡ length elements
    pub putting : Putting before 2 (rest_bytes ds ds) at out (rest_bytes ds left)

  -- so it is for all declarations that stand so in the text, and there are some
  pub record Going (j at : ℕ) (out : List ℕ) : Type 0 where
    pub files : Files text elements contents ends rows before
    pub few : length elements ≤ 48
    pub some_contents : length elements ≤ length contents
    pub some_ends : length elements ≤ length ends
    pub some_rows : 240 ≤ length rows
    pub long : length out ≡ length before
    pub each : (ds : List Declaration) → Filed text elements contents ends rows before ds → Filing ds j at out

  first : (ds : List Declaration) → Filed text elements contents ends rows before ds → Filing ds 0 2 before
  first ds f =
      let n = names_count text elements contents ends rows before ds f in
      let h = rest_short text elements contents ends rows before ds f ds 0 f.stand in
      record {
        left = ds;
        stand = f.stand;
        number = omega (arith, n);
        putting = putting_none before 2 (rest_bytes ds ds) (omega (arith, h, n, f.few, f.long));
      }

  pub begun : Files text elements contents ends rows before → Going 0 2 before
  begun s = record {
    files = s;
    few = s.filed.few;
    some_contents = s.filed.some_contents;
    some_ends = s.filed.some_ends;
    some_rows = s.filed.some_rows;
    long = refl;
    each = first;
  }

  module _ (j at : ℕ) (out : List ℕ) (g : Going j at out) where
    next_of : (h : j < length elements) (ds : List Declaration) (f : Filed text elements contents ends rows before ds)
        → Next text elements contents ends rows before ds f (g.each ds f).left j
    next_of h ds f =
        let x = g.each ds f in
        next text elements contents ends rows before ds f x.left j (omega (arith, x.number)) x.stand

    module _ (h : j < length elements) (row : Row) (e : row ≡ row_at rows j) where
      pub ready : Ready text elements (get_or contents j 0) (get_or ends j 0) row out at
      ready =
          let f = g.files.filed in
          let x = next_of h g.files.ds f in
          let b : List ℕ = element_bytes text elements x.content (row_at rows j) in
          rw e (record {
            content = x.content;
            spelled = x.here.spelled;
            inside = x.here.inside;
            few = f.few;
            fits = x.here.fits;
            room = omega (arith, (g.each g.files.ds f).putting.room, ap length x.bytes, length-append b (rest_bytes g.files.ds x.rest));
          })

      turn : (r : ℕ) (after : List ℕ) → ElementPut text elements (get_or contents j 0) (get_or ends j 0) row out at r after
          → (ds : List Declaration) → Filed text elements contents ends rows before ds → Filing ds (j + 1) r after
      turn r after p ds f =
          let x = next_of h ds f in
          let y = g.each ds f in
          let b : List ℕ = element_bytes text elements x.content (row_at rows j) in
          let q : Put out at b r after = rw e at (p x.content x.here.spelled) in
          record {
            left = x.rest;
            stand = rw (add-one j) x.later;
            number = omega (arith, y.number, x.one_less);
            putting = putting_more before 2 (rest_bytes ds ds) at out (rest_bytes ds y.left) y.putting b (rest_bytes ds x.rest) r after x.bytes q;
          }

      pub again : (r : ℕ) (after : List ℕ) → ElementPut text elements (get_or contents j 0) (get_or ends j 0) row out at r after → Going (j + 1) r after
      again r after p = record {
        files = g.files;
        few = g.few;
        some_contents = g.some_contents;
        some_ends = g.some_ends;
        some_rows = g.some_rows;
        long = (turn r after p g.files.ds g.files.filed).putting.long;
        each = turn r after p;
      }

    pub all : length elements ≤ j → ElementsPut text elements contents ends rows before at out
    all h ds f =
        let x = g.each ds f in
        putting_all before 2 (rest_bytes ds ds) at out (rest_bytes ds x.left) x.putting (rest_none ds x.left (omega (arith, x.number)))
