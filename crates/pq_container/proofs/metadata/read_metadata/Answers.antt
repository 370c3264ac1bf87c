use Rattle.std.proofs.Common.{◌≡◌, ◌-◌, ℕ, List, take, drop, length, ap, subst, ◌∙◌, inr}
use Rattle.columns_base.specs.declared.error.Error.{Error}
use Rattle.pq_metadata.specs.Frame.{footer_of}
use Rattle.pq_metadata.specs.Metadata.{RefusesMetadata, RefusesFile}
use Rattle.pq_tree.proofs.Refusals.{if_err_more}
use Rattle.pq_container.proofs.metadata.read_metadata.Goals as goal

pub returns-clause-refused : goal.returns-clause-refused
returns-clause-refused c =
    let file = c.args.file.now in
    let n = c.in-Some.length in
    let there : take n (drop (length file - 8 - n) file) ≡ footer_of file = ap (λ (k : ℕ). take k (drop (length file - 8 - k) file)) c.in-Some.ensures.1 in
    let here : List ℕ = c.split_at-2.result.0.now in
    let same : here ≡ footer_of file = c.split_at-2.ensures.front ∙ ap (take n) c.split_at.ensures.back ∙ there in
    if_err_more c.read_footer_metadata.result (RefusesMetadata here) (RefusesFile file) (λ (e : Error) h. inr (inr (c.in-Some.ensures.0, subst (λ (bytes : List ℕ). RefusesMetadata bytes e) same h))) c.read_footer_metadata.ensures.refused
