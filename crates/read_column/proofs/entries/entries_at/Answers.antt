use Rattle.std.proofs.Common.{◌≡◌, ℕ, ◌++◌, ◌∙◌, List, All, ap, sym, subst, refl, map, length, replicate}
use Rattle.read_column.specs.Dictionary.{text_at}
use Rattle.read_column.specs.Entries.{IsPadded}
use Rattle.read_column.proofs.Even.{are_even, padded, same_texts}
use Rattle.read_column.proofs.entries.entries_at.Goals as goal

pub invariant_of-result : goal.invariant_of-result
invariant_of-result c =
    let body = c.args.body.now in
    let ps = c.args.places.items in
    let zeros : List ℕ = replicate 32 0 in
    let items : c.extend_from_slice-2.new.self.items ≡ body ++ zeros = c.in_ok-extend_from_slice-2.ensures.items ∙ ap (λ (t : List ℕ). t ++ zeros) (c.in_ok-extend_from_slice.ensures.items ∙ ap (λ (t : List ℕ). t ++ body) c.new-copy.ensures.items) in
    let whole : All (IsPadded (length c.extend_from_slice-2.new.self.items)) ps = subst (λ (t : List ℕ). All (IsPadded (length t)) ps) (sym items) (padded body zeros ps refl c.requires) in
    (whole, λ some. are_even c.even_size-size.result c.extend_from_slice-2.new.self.items ps (rw c.deref.ensures.value at (c.even_size-size.ensures some)) whole)

pub returns-clause-ok : goal.returns-clause-ok
returns-clause-ok c =
    let body = c.args.body.now in
    let ps = c.args.places.items in
    let zeros : List ℕ = replicate 32 0 in
    let items : c.extend_from_slice-2.new.self.items ≡ body ++ zeros = c.in_ok-extend_from_slice-2.ensures.items ∙ ap (λ (t : List ℕ). t ++ zeros) (c.in_ok-extend_from_slice.ensures.items ∙ ap (λ (t : List ℕ). t ++ body) c.new-copy.ensures.items) in
    ap (λ (t : List ℕ). map (text_at t) ps) items ∙ same_texts body zeros ps c.requires
