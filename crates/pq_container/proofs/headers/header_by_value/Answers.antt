use Rattle.std.proofs.Common.{sym, subst}
use Rattle.std.specs.Prelude.{Ok, Err}
use Rattle.columns_base.specs.declared.error.Error.{Error}
use Rattle.pq_tree.specs.Views.{page_header_view}
use Rattle.pq_container.proofs.FromBytes.{Told, RefusesHeader, header_nothing, header_none, header_known, header_there}
use Rattle.pq_container.proofs.headers.header_by_value.Goals as goal

pub returns-in-Err-clause-none : goal.returns-in-Err-clause-none
returns-in-Err-clause-none c =
    let told : Told c.args.bytes.now (Err c.in-Err.error) = record { complete = c.in-Err.ensures.complete; only_deep = c.in-Err.ensures.only_deep; deep = c.in-Err.ensures.deep; exact = c.in-Err.ensures.exact } in
    (subst (λ (e : Error). RefusesHeader c.args.bytes.now e) (sym c.header_reason.ensures) (header_nothing c.args.bytes.now c.in-Err.error told)).none

pub returns-in-Err-clause-other_type : goal.returns-in-Err-clause-other_type
returns-in-Err-clause-other_type c =
    let told : Told c.args.bytes.now (Err c.in-Err.error) = record { complete = c.in-Err.ensures.complete; only_deep = c.in-Err.ensures.only_deep; deep = c.in-Err.ensures.deep; exact = c.in-Err.ensures.exact } in
    (subst (λ (e : Error). RefusesHeader c.args.bytes.now e) (sym c.header_reason.ensures) (header_nothing c.args.bytes.now c.in-Err.error told)).other_type

pub returns-in-Err-clause-refused : goal.returns-in-Err-clause-refused
returns-in-Err-clause-refused c =
    let told : Told c.args.bytes.now (Err c.in-Err.error) = record { complete = c.in-Err.ensures.complete; only_deep = c.in-Err.ensures.only_deep; deep = c.in-Err.ensures.deep; exact = c.in-Err.ensures.exact } in
    (subst (λ (e : Error). RefusesHeader c.args.bytes.now e) (sym c.header_reason.ensures) (header_nothing c.args.bytes.now c.in-Err.error told)).refused

pub returns-in-Ok-page_header_from-clause-other_type : goal.returns-in-Ok-page_header_from-clause-other_type
returns-in-Ok-page_header_from-clause-other_type c =
    let told : Told c.args.bytes.now (Ok c.in-Ok.read) = record { complete = c.in-Ok.ensures.complete; only_deep = c.in-Ok.ensures.only_deep; deep = c.in-Ok.ensures.deep; exact = c.in-Ok.ensures.exact } in
    header_known c.args.bytes.now c.in-Ok.read (page_header_view c.in-Ok-page_header_from.header) told c.in-Ok-page_header_from.ensures.found

pub returns-in-Ok-page_header_from-clause-refused : goal.returns-in-Ok-page_header_from-clause-refused
returns-in-Ok-page_header_from-clause-refused c =
    λ n. header_there c.args.bytes.now c.in-Ok.read (page_header_view c.in-Ok-page_header_from.header) c.in-Ok.ensures.ok.1 c.in-Ok.ensures.ok.2 c.in-Ok-page_header_from.ensures.found n.0

pub returns-clause-other_type : goal.returns-clause-other_type
returns-clause-other_type c =
    let told : Told c.args.bytes.now (Ok c.in-Ok.read) = record { complete = c.in-Ok.ensures.complete; only_deep = c.in-Ok.ensures.only_deep; deep = c.in-Ok.ensures.deep; exact = c.in-Ok.ensures.exact } in
    (header_none c.args.bytes.now c.in-Ok.read c.struct_reason.result told c.in-Ok.ensures.ok.1 c.in-Ok.ensures.ok.2 c.in-Err-page_header_from.ensures.refused c.struct_reason.ensures).other_type

pub returns-clause-refused : goal.returns-clause-refused
returns-clause-refused c =
    let told : Told c.args.bytes.now (Ok c.in-Ok.read) = record { complete = c.in-Ok.ensures.complete; only_deep = c.in-Ok.ensures.only_deep; deep = c.in-Ok.ensures.deep; exact = c.in-Ok.ensures.exact } in
    (header_none c.args.bytes.now c.in-Ok.read c.struct_reason.result told c.in-Ok.ensures.ok.1 c.in-Ok.ensures.ok.2 c.in-Err-page_header_from.ensures.refused c.struct_reason.ensures).refused
