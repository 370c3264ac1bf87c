use Rattle.std.proofs.Common.{List, ℕ, Option, Some, subst, sym, ◌∙◌, ◌≡◌, ◌⊎◌}
use Rattle.pq_pages.specs.Outcomes.{Outcome}
use Rattle.read_pieces.specs.Columns.{RefusesPiece}
use Rattle.read_column.specs.Dictionary.{means}
use Rattle.read_column.specs.Queues.{Waiting}
use Rattle.read_column.specs.Foreseen.{SourceFails, foreseeing, foreseen}
use Rattle.read_column.specs.Reading.{IsReading, Reading, reading}
use Rattle.read_column.proofs.Futures.{its-own, own-behind, own-foreseen, own-reading, refuses-own}
use Rattle.read_column.proofs.Readings.{gives-piece, nothing-more}
use Rattle.read_column.proofs.reader.ColumnReader.next_piece.Goals as goal

pub returns-in-Err-clause-gives : goal.returns-in-Err-clause-gives
returns-in-Err-clause-gives g c o pieces r =
    let others = its-own (g.I.Pages.outcomes c.self.inside.pages) in
    let opened = subst (λ (x : Reading). IsReading (λ (text : List ℕ). g.L.LeafReader.stored c.args.leaf.now text 0) g.L.LeafReader.byte_limit o pieces x) (sym c.self.view_is) r in
    let queue : c.self.inside.queue ≡ Some c.in-Some.queue = sym c.take.ensures.value ∙ c.in-Some.is in
    let own = subst (λ (q : Option Waiting). IsReading (λ (text : List ℕ). g.L.LeafReader.stored c.args.leaf.now text 0) g.L.LeafReader.byte_limit o pieces (record { outcomes = g.I.Pages.outcomes c.self.inside.pages; means = means c.self.inside.entries c.self.inside.deltas; queue = q; began = c.self.inside.began })) queue opened in
    let before = subst (λ (os : List Outcome). IsReading (λ (text : List ℕ). g.L.LeafReader.stored c.args.leaf.now text 0) g.L.LeafReader.byte_limit o pieces (reading os (means c.self.inside.entries c.self.inside.deltas) c.in-Some.queue c.self.inside.began)) (sym (own-foreseen (g.I.Pages.outcomes c.self.inside.pages))) own in
    refuses-own _ _ o pieces _ _ _ _ c.in-Err.error own (c.in-Err.ensures.err o pieces others before)

pub returns-in-Err-clause-foreseen : goal.returns-in-Err-clause-foreseen
returns-in-Err-clause-foreseen g c o pieces others r =
    let opened = subst (λ (x : Reading). IsReading (λ (text : List ℕ). g.L.LeafReader.stored c.args.leaf.now text 0) g.L.LeafReader.byte_limit o pieces (foreseeing others x)) (sym c.self.view_is) r in
    let queue : c.self.inside.queue ≡ Some c.in-Some.queue = sym c.take.ensures.value ∙ c.in-Some.is in
    let before = subst (λ (q : Option Waiting). IsReading (λ (text : List ℕ). g.L.LeafReader.stored c.args.leaf.now text 0) g.L.LeafReader.byte_limit o pieces (record { outcomes = foreseen (g.I.Pages.outcomes c.self.inside.pages) others; means = means c.self.inside.entries c.self.inside.deltas; queue = q; began = c.self.inside.began })) queue opened in
    subst (λ (x : Reading). SourceFails c.in-Err.error x.outcomes ⊎ RefusesPiece o c.in-Err.error) c.self.view_is (c.in-Err.ensures.err o pieces others before)

pub returns-in-Some-pop-clause-gives : goal.returns-in-Some-pop-clause-gives
returns-in-Some-pop-clause-gives g c o pieces r =
    let others = its-own (g.I.Pages.outcomes c.self.inside.pages) in
    let opened = subst (λ (x : Reading). IsReading (λ (text : List ℕ). g.L.LeafReader.stored c.args.leaf.now text 0) g.L.LeafReader.byte_limit o pieces x) (sym c.self.view_is) r in
    let queue : c.self.inside.queue ≡ Some c.in-Some.queue = sym c.take.ensures.value ∙ c.in-Some.is in
    let own = subst (λ (q : Option Waiting). IsReading (λ (text : List ℕ). g.L.LeafReader.stored c.args.leaf.now text 0) g.L.LeafReader.byte_limit o pieces (record { outcomes = g.I.Pages.outcomes c.self.inside.pages; means = means c.self.inside.entries c.self.inside.deltas; queue = q; began = c.self.inside.began })) queue opened in
    let before = subst (λ (os : List Outcome). IsReading (λ (text : List ℕ). g.L.LeafReader.stored c.args.leaf.now text 0) g.L.LeafReader.byte_limit o pieces (reading os (means c.self.inside.entries c.self.inside.deltas) c.in-Some.queue c.self.inside.began)) (sym (own-foreseen (g.I.Pages.outcomes c.self.inside.pages))) own in
    let f = c.in-Ok.ensures.ok o pieces others before in
    let is = own-reading _ _ o pieces _ others _ _ _ (own-behind _ _ c.in-Ok.ensures.behind) f.is in
    let gives = gives-piece _ _ o pieces _ _ c.in-Ok.queue c.pop.new.self _ (c.in-Some-pop.piece.0, g.L.LeafReader.slots c.in-Some-pop.piece.1) is c.in-Some-pop.ensures.0 in
    (gives.triples, gives.next, gives.is, gives.reads)

pub returns-in-Some-pop-clause-foreseen : goal.returns-in-Some-pop-clause-foreseen
returns-in-Some-pop-clause-foreseen g c o pieces others r =
    let opened = subst (λ (x : Reading). IsReading (λ (text : List ℕ). g.L.LeafReader.stored c.args.leaf.now text 0) g.L.LeafReader.byte_limit o pieces (foreseeing others x)) (sym c.self.view_is) r in
    let queue : c.self.inside.queue ≡ Some c.in-Some.queue = sym c.take.ensures.value ∙ c.in-Some.is in
    let before = subst (λ (q : Option Waiting). IsReading (λ (text : List ℕ). g.L.LeafReader.stored c.args.leaf.now text 0) g.L.LeafReader.byte_limit o pieces (record { outcomes = foreseen (g.I.Pages.outcomes c.self.inside.pages) others; means = means c.self.inside.entries c.self.inside.deltas; queue = q; began = c.self.inside.began })) queue opened in
    let f = c.in-Ok.ensures.ok o pieces others before in
    let gives = gives-piece _ _ o pieces _ _ c.in-Ok.queue c.pop.new.self _ (c.in-Some-pop.piece.0, g.L.LeafReader.slots c.in-Some-pop.piece.1) f.is c.in-Some-pop.ensures.0 in
    (gives.triples, gives.next, gives.is, gives.reads)

pub returns-in-None-clause-gives : goal.returns-in-None-clause-gives
returns-in-None-clause-gives g c o pieces r =
    let others = its-own (g.I.Pages.outcomes c.self.inside.pages) in
    let opened = subst (λ (x : Reading). IsReading (λ (text : List ℕ). g.L.LeafReader.stored c.args.leaf.now text 0) g.L.LeafReader.byte_limit o pieces x) (sym c.self.view_is) r in
    let queue : c.self.inside.queue ≡ Some c.in-Some.queue = sym c.take.ensures.value ∙ c.in-Some.is in
    let own = subst (λ (q : Option Waiting). IsReading (λ (text : List ℕ). g.L.LeafReader.stored c.args.leaf.now text 0) g.L.LeafReader.byte_limit o pieces (record { outcomes = g.I.Pages.outcomes c.self.inside.pages; means = means c.self.inside.entries c.self.inside.deltas; queue = q; began = c.self.inside.began })) queue opened in
    let before = subst (λ (os : List Outcome). IsReading (λ (text : List ℕ). g.L.LeafReader.stored c.args.leaf.now text 0) g.L.LeafReader.byte_limit o pieces (reading os (means c.self.inside.entries c.self.inside.deltas) c.in-Some.queue c.self.inside.began)) (sym (own-foreseen (g.I.Pages.outcomes c.self.inside.pages))) own in
    nothing-more _ _ o pieces _ _ c.in-Ok.queue _ (c.in-Ok.ensures.ok o pieces others before) c.in-None.ensures.0

pub returns-in-None-clause-foreseen : goal.returns-in-None-clause-foreseen
returns-in-None-clause-foreseen g c o pieces others r =
    let opened = subst (λ (x : Reading). IsReading (λ (text : List ℕ). g.L.LeafReader.stored c.args.leaf.now text 0) g.L.LeafReader.byte_limit o pieces (foreseeing others x)) (sym c.self.view_is) r in
    let queue : c.self.inside.queue ≡ Some c.in-Some.queue = sym c.take.ensures.value ∙ c.in-Some.is in
    let before = subst (λ (q : Option Waiting). IsReading (λ (text : List ℕ). g.L.LeafReader.stored c.args.leaf.now text 0) g.L.LeafReader.byte_limit o pieces (record { outcomes = foreseen (g.I.Pages.outcomes c.self.inside.pages) others; means = means c.self.inside.entries c.self.inside.deltas; queue = q; began = c.self.inside.began })) queue opened in
    nothing-more _ _ o pieces _ _ c.in-Ok.queue _ (c.in-Ok.ensures.ok o pieces others before) c.in-None.ensures.0
