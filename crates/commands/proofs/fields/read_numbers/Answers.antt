use Rattle.std.proofs.Common.{rules, tests, ◌∙◌}
use Rattle.commands.proofs.Yielded.{fields_yielded, next_some, next_none}
use Rattle.commands.proofs.Numbered.{one_field, first_refused, two_fields, three, second_refused, four_fields, both_read}
use Rattle.commands.proofs.fields.read_numbers.Goals as goal

pub returns-in_err-next : goal.returns-in_err-next
returns-in_err-next c =
    let split = c.split-fields.ensures in
    let letter = next_some (fields_yielded _ c.split-fields.result c.args.line.now split.rest split.done split.closure (λ x b q k. search (rules, tests)))
    c.in_ok-_letter._letter c.next.new.self c.in_ok-_letter.ensures.steps in
    c.from_residual-in_err-next.ensures ∙ one_field _ _ _ letter.1 (next_none letter.2 c.next-2.new.self c.in_err-next.ensures.steps)

pub returns-in_err-first : goal.returns-in_err-first
returns-in_err-first c =
    let split = c.split-fields.ensures in
    let letter = next_some (fields_yielded _ c.split-fields.result c.args.line.now split.rest split.done split.closure (λ x b q k. search (rules, tests)))
    c.in_ok-_letter._letter c.next.new.self c.in_ok-_letter.ensures.steps in
    let first = next_some letter.2 c.in_ok-next.field-0 c.next-2.new.self c.in_ok-next.ensures.steps in
    c.from_residual-in_err-first.ensures ∙ first_refused _ _ _ _ _ letter.1 first.1 c.in_err-first.ensures

pub returns-in_err-next-2 : goal.returns-in_err-next-2
returns-in_err-next-2 c =
    let split = c.split-fields.ensures in
    let letter = next_some (fields_yielded _ c.split-fields.result c.args.line.now split.rest split.done split.closure (λ x b q k. search (rules, tests)))
    c.in_ok-_letter._letter c.next.new.self c.in_ok-_letter.ensures.steps in
    let first = next_some letter.2 c.in_ok-next.field-0 c.next-2.new.self c.in_ok-next.ensures.steps in
    c.from_residual-in_err-next-2.ensures ∙ two_fields _ _ _ _ _ letter.1 first.1 (next_none first.2 c.next-3.new.self c.in_err-next-2.ensures.steps)

pub returns-in_err-second : goal.returns-in_err-second
returns-in_err-second c =
    let split = c.split-fields.ensures in
    let letter = next_some (fields_yielded _ c.split-fields.result c.args.line.now split.rest split.done split.closure (λ x b q k. search (rules, tests)))
    c.in_ok-_letter._letter c.next.new.self c.in_ok-_letter.ensures.steps in
    let first = next_some letter.2 c.in_ok-next.field-0 c.next-2.new.self c.in_ok-next.ensures.steps in
    let second = next_some first.2 c.in_ok-next-2.field-0 c.next-3.new.self c.in_ok-next-2.ensures.steps in
    let fields = three _ _ _ _ _ _ _ letter.1 first.1 second.1 in
    c.from_residual-in_err-second.ensures ∙ second_refused _ _ _ _ fields c.in_err-second.ensures

pub returns-in-Some : goal.returns-in-Some
returns-in-Some c =
    let split = c.split-fields.ensures in
    let letter = next_some (fields_yielded _ c.split-fields.result c.args.line.now split.rest split.done split.closure (λ x b q k. search (rules, tests)))
    c.in_ok-_letter._letter c.next.new.self c.in_ok-_letter.ensures.steps in
    let first = next_some letter.2 c.in_ok-next.field-0 c.next-2.new.self c.in_ok-next.ensures.steps in
    let second = next_some first.2 c.in_ok-next-2.field-0 c.next-3.new.self c.in_ok-next-2.ensures.steps in
    let fields = three _ _ _ _ _ _ _ letter.1 first.1 second.1 in
    four_fields _ _ _ _ _ _ fields (next_some second.2 c.in-Some.field-0 c.next-4.new.self c.in-Some.ensures.steps).1

pub returns-in-None : goal.returns-in-None
returns-in-None c =
    let split = c.split-fields.ensures in
    let letter = next_some (fields_yielded _ c.split-fields.result c.args.line.now split.rest split.done split.closure (λ x b q k. search (rules, tests)))
    c.in_ok-_letter._letter c.next.new.self c.in_ok-_letter.ensures.steps in
    let first = next_some letter.2 c.in_ok-next.field-0 c.next-2.new.self c.in_ok-next.ensures.steps in
    let second = next_some first.2 c.in_ok-next-2.field-0 c.next-3.new.self c.in_ok-next-2.ensures.steps in
    let fields = three _ _ _ _ _ _ _ letter.1 first.1 second.1 in
    both_read _ _ _ _ _ _ fields (next_none second.2 c.next-4.new.self c.in-None.ensures.steps) c.in_ok-first.ensures c.in_ok-second.ensures
