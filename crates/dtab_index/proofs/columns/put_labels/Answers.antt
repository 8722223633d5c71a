use Rattle.std.proofs.Common.{ap, ◌∙◌, arith}
use Rattle.std.proofs.lemmas.List.{length-map, map_push}
use Rattle.dtab_index.specs.Prefix.{pattern_of, patterns_of}
use Rattle.dtab_index.proofs.Known.{none_put, blank_there, put_there, kept_there}
use Rattle.dtab_index.proofs.columns.put_labels.Goals as goal

pub loop-pattern-init : goal.loop-pattern-init
loop-pattern-init c =
    none_put (patterns_of c.args.prefix.items) c.args.columns.now.items c.args.place
    (omega (arith, c.requires.long, length-map c.args.prefix.items pattern_of)) c.requires.blank

pub put-requires-clause-blank : goal.put-requires-clause-blank
put-requires-clause-blank c =
    blank_there (patterns_of c.args.prefix.items) (patterns_of c.loop-pattern.prefix.items)
    (patterns_of c.pop.new.self.items) (pattern_of c.in-Some.pattern) c.args.columns.now.items
    c.loop-pattern.columns.items c.args.place
    c.len.result c.index_mut-column.result.now c.loop-pattern.invariant
    (ap patterns_of c.in-Some.ensures.items
    ∙ map_push pattern_of c.pop.new.self.items c.in-Some.pattern)
    (omega (arith, c.len.ensures, c.pop.new.self.ok.0, length-map c.pop.new.self.items pattern_of))
    c.index_mut-column.ensures.value

pub loop-pattern-preserved : goal.loop-pattern-preserved
loop-pattern-preserved c =
    put_there (patterns_of c.args.prefix.items) (patterns_of c.loop-pattern.prefix.items)
    (patterns_of c.pop.new.self.items) (pattern_of c.in-Some.pattern) c.args.columns.now.items
    c.loop-pattern.columns.items c.args.place
    c.len.result c.index_mut-column.result.now c.loop-pattern.invariant
    (ap patterns_of c.in-Some.ensures.items
    ∙ map_push pattern_of c.pop.new.self.items c.in-Some.pattern)
    (omega (arith, c.len.ensures, c.pop.new.self.ok.0, length-map c.pop.new.self.items pattern_of))
    c.index_mut-column.ensures.value c.put.new.self c.in_ok-put.ensures.said
    c.in_ok-put.ensures.kept

pub returns-in_err-put-clause-kept : goal.returns-in_err-put-clause-kept
returns-in_err-put-clause-kept c =
    kept_there (patterns_of c.args.prefix.items) (patterns_of c.loop-pattern.prefix.items)
    (patterns_of c.pop.new.self.items) (pattern_of c.in-Some.pattern) c.args.columns.now.items
    c.loop-pattern.columns.items c.args.place
    c.len.result c.index_mut-column.result.now c.loop-pattern.invariant
    (ap patterns_of c.in-Some.ensures.items
    ∙ map_push pattern_of c.pop.new.self.items c.in-Some.pattern)
    (omega (arith, c.len.ensures, c.pop.new.self.ok.0, length-map c.pop.new.self.items pattern_of))
    c.index_mut-column.ensures.value c.put.new.self c.in_err-put.ensures.kept
