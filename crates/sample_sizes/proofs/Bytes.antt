-- How many bytes files of the sample have.
use Rattle.std.proofs.Common.{◌++◌, All, length, ap, arith}
use Rattle.std.specs.List.{AllByRecursion}
use Rattle.std.proofs.lemmas.List.{length-append}
use Rattle.std.proofs.lemmas.List.Elements.{recursion_from_All}
use Rattle.pq_metadata.specs.Frame.{magic}
use Rattle.sample_sizes.proofs.Footers.{footer_text}
use Rattle.sample_sizes.proofs.Held.{all_laid_out}
use Rattle.sample_sizes.proofs.Paged.{groups_short}
use Rattle.sample_sizes.specs.Laws.{FilesAreSmall}
use Rattle.sample_sizes.specs.Rows.{IsRow}

pub files_are_small : FilesAreSmall
files_are_small s version rowss bytes limit a f =
    let w = f.packed.written in
    let each : AllByRecursion (All IsRow) rowss = recursion_from_All (All IsRow) rowss a.are in
    let are = all_laid_out s rowss f.outs f.are in
    let behind = w.footer ++ (w.size ++ magic) in
    omega (
      arith,
      ap length w.parts,
      length-append magic (w.pages ++ behind),
      length-append w.pages behind,
      length-append w.footer (w.size ++ magic),
      length-append w.size magic,
      w.four,
      groups_short version s rowss f.outs 0 4 w.pages w.row_groups limit each are w.are,
      footer_text version s rowss f.outs bytes each a.groups are w,
      a.few,
      a.groups,
    )
