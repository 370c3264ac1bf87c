use Rattle.std.proofs.Common.{ℕ, ◌≤◌, List, length, Option, Some, None, ap, arith, length-append}
use Rattle.pq_files.specs.Chunk.{RawPage, Pages, here, page, StartsWith}
use Rattle.pq_pages.proofs.laws.no_header_is_longer.Goals as goal

behind_pages : (n m : ℕ) (bytes rest : List ℕ) (pages : List RawPage) → Pages n bytes pages m rest → length rest ≤ length bytes
behind_pages _ _ _ _ _ (here m rest) = omega arith
behind_pages _ _ _ _ _ (page n m text bytes rest p more is is_data some others) = omega (arith, behind_pages n m bytes rest more others, length-append text bytes)

behind_dictionary : (n : ℕ) (bytes behind : List ℕ) (dict : Option RawPage) → StartsWith n bytes dict behind → length behind ≤ length bytes
behind_dictionary n bytes behind None e = omega (arith, ap length e)
behind_dictionary n bytes behind (Some p) s = omega (arith, ap length s.4, length-append s.0 behind)

pub returns : goal.returns
returns c =
    λ max n text fits x.
    let first = behind_dictionary n text x.reaches.behind x.dict x.reaches.starts in
    let then = behind_pages n x.m x.reaches.behind x.rest x.pages x.reaches.are in
    omega (arith, fits, first, then, ap length x.parts, length-append x.head x.behind, x.long)
