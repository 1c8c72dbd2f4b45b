use Rattle.std.proofs.Common.{◌≡◌, Some, None, arith, sym}
use Rattle.report_lines.proofs.KindLaws.{called, marked}
use Rattle.report_lines.proofs.PickedLaws.{called_picked, marked_picked}
use Rattle.report_lines.proofs.MissedLaws.{no_parts, no_facility, no_loss, no_caller, no_command, no_kind, no_reply}
use Rattle.report_lines.proofs.entries.read_entry.Goals as goal

pub returns-in_default-clause-none : goal.returns-in_default-clause-none
returns-in_default-clause-none g c =
    no_parts _ _ _ _ _ c.requires.kind
    c.args.script.now c.args.on c.requires.keeps c.requires.known c.args.line.now c.in_default.ensures.none

pub returns-in_default-lost_facility-clause-none : goal.returns-in_default-lost_facility-clause-none
returns-in_default-lost_facility-clause-none g c =
    no_facility _ _ _ _ _ c.requires.kind
    c.args.script.now c.args.on c.requires.keeps c.requires.known c.args.line.now _ _ _ _
    c.in-Some.ensures.found _ c.items-connectors.ensures c.if-is.ensures c.in_default-lost_facility.ensures.none

pub returns-then-is-clause-found : goal.returns-then-is-clause-found
returns-then-is-clause-found g c =
    marked _ _ _ _ _ c.requires.kind
    c.args.script.now c.args.on c.args.line.now _ _ _ _ _
    c.requires.keeps c.in-Some.ensures.found c.items-connectors.ensures c.in-Some-lost_facility.cf c.mark_entry.result
    c.if-is.ensures c.in-Some-lost_facility.ensures.found c.mark_entry.ensures

pub returns-then-is-clause-none : goal.returns-then-is-clause-none
returns-then-is-clause-none g c =
    no_loss _ _ _ _ _ c.requires.kind
    c.args.script.now c.args.on c.requires.keeps c.requires.known c.args.line.now _ _ _ _
    c.in-Some.ensures.found _ c.items-connectors.ensures c.if-is.ensures c.in-Some-lost_facility.cf c.mark_entry.result
    c.mark_entry.ensures

pub returns-in_default-caller-clause-none : goal.returns-in_default-caller-clause-none
returns-in_default-caller-clause-none g c =
    no_caller _ _ _ _ _ c.requires.kind
    c.args.script.now c.args.on c.requires.keeps c.requires.known c.args.line.now _ _ _ _
    c.in-Some.ensures.found _ c.items-connectors.ensures (sym c.if-is.ensures) c.in_default-caller.ensures.value

pub returns-in_default-2-clause-none : goal.returns-in_default-2-clause-none
returns-in_default-2-clause-none g c =
    let none : c.in_ok-call.field-0 ≡ None = grind arith in
    no_command _ _ _ _ _ c.requires.kind
    c.args.script.now c.args.on c.requires.keeps c.requires.known c.args.line.now _ _ _ _
    c.in-Some.ensures.found _ c.items-connectors.ensures (sym c.if-is.ensures) c.in-Some-caller.by
    c.in-Some-caller.ensures.value c.in_ok-call.field-0 none c.in_ok-call.ensures.none

pub returns-in_default-of_call-clause-none : goal.returns-in_default-of_call-clause-none
returns-in_default-of_call-clause-none g c =
    let call : c.in_ok-call.field-0 ≡ Some c.in-Some-2.call = grind arith in
    no_kind _ _ _ _ _ c.requires.kind
    c.args.script.now c.args.on c.requires.keeps c.requires.known c.args.line.now _ _ _ _
    c.in-Some.ensures.found _ c.items-connectors.ensures (sym c.if-is.ensures) c.in-Some-caller.by
    c.in-Some-caller.ensures.value _ c.in-Some-2.call c.in_ok-call.ensures.found call
    c.in_default-of_call.ensures.none

pub returns-clause-found : goal.returns-clause-found
returns-clause-found g c =
    let call : c.in_ok-call.field-0 ≡ Some c.in-Some-2.call = grind arith in
    called _ _ _ _ _ c.requires.kind
    c.args.script.now c.args.on c.args.line.now _ _ _ _ _
    c.requires.keeps c.in-Some.ensures.found c.items-connectors.ensures c.in-Some-caller.by _ c.in-Some-2.call
    _ c.in-Some-of_call.asked c.call_entry.result c.in-Some-caller.ensures.value c.in_ok-call.ensures.found call
    c.asked_side-side.ensures c.in-Some-of_call.ensures.found c.call_entry.ensures

pub returns-clause-none : goal.returns-clause-none
returns-clause-none g c =
    let call : c.in_ok-call.field-0 ≡ Some c.in-Some-2.call = grind arith in
    no_reply _ _ _ _ _ c.requires.kind
    c.args.script.now c.args.on c.requires.keeps c.requires.known c.args.line.now _ _ _ _
    c.in-Some.ensures.found _ c.items-connectors.ensures (sym c.if-is.ensures) c.in-Some-caller.by
    c.in-Some-caller.ensures.value _ c.in-Some-2.call c.in_ok-call.ensures.found call _ c.in-Some-of_call.asked
    c.call_entry.result c.asked_side-side.ensures c.in-Some-of_call.ensures.found c.call_entry.ensures

pub returns-then-is-clause-picked : goal.returns-then-is-clause-picked
returns-then-is-clause-picked g c =
    marked_picked _ _ _ _ _ c.requires.kind
    c.args.script.now c.args.on c.requires.keeps c.args.line.now _ _ _ _ c.in-Some.ensures.found _
    c.items-connectors.ensures c.in-Some-lost_facility.cf c.mark_entry.result c.mark_entry.ensures

pub returns-clause-picked : goal.returns-clause-picked
returns-clause-picked g c =
    let call : c.in_ok-call.field-0 ≡ Some c.in-Some-2.call = grind arith in
    called_picked _ _ _ _ _ c.requires.kind
    c.args.script.now c.args.on c.requires.keeps c.args.line.now _ _ _ _ c.in-Some.ensures.found _
    c.items-connectors.ensures c.in-Some-caller.by _ c.in-Some-2.call _ c.in-Some-of_call.asked c.call_entry.result
    c.in_ok-call.ensures.found call c.asked_side-side.ensures c.in-Some-of_call.ensures.found c.call_entry.ensures
