use Rattle.std.proofs.Common.{◌∷◌, inr, drop, refl, sym, ap, ◌∙◌}
use Rattle.name_tree.specs.Path.{Labels}
use Rattle.name_tree.specs.Tree.{value_of}
use Rattle.name_tree.specs.Value.{append_rest}
use Rattle.bind_core.specs.Delegation.{named_ending}
use Rattle.bind_core.specs.Rewritten.{labels_of}
use Rattle.bind_core.specs.Stack.{trees_left}
use Rattle.bind_core.specs.Outcome.{ending_of}
use Rattle.bind_core.specs.declared.frame.Frame.TheVariants.{FirstOf}
use Rattle.bind_core.proofs.Turns.{passed, emptied, chosen, passed_on, emptied_on}
use Rattle.bind_core.proofs.delegate.next_tree.Goals as goal

pub returns-in_default : goal.returns-in_default
returns-in_default c = record {
  step = λ rules names. passed rules names _ c.args.choice _ _ c.requires.few c.args.told
      c.in_default.not-Neg c.requires.goes_on refl refl c.end.ensures.most c.end.ensures.items;
  moves = passed_on c.args.work.now.stack.items c.args.choice c.args.told c.in_default.not-Neg
      c.requires.goes_on;
  count = refl;
}

pub returns-in_default-next-clause-step : goal.returns-in_default-next-clause-step
returns-in_default-next-clause-step c =
    λ rules names. emptied rules names _ c.args.choice _ _ c.requires.few c.args.told _ c.in-Neg.is
    (c.in_default-next.ensures (labels_of c.args.choice.path))
    (c.named_outcome-named.ensures ∙ ap named_ending c.into_named.ensures)
    refl refl
    c.end-in_default-next.ensures.most c.end-in_default-next.ensures.items

pub returns-in_default-next-clause-moves : goal.returns-in_default-next-clause-moves
returns-in_default-next-clause-moves c =
    emptied_on c.args.work.now.stack.items c.args.choice _ c.args.choice.named
    c.named_outcome-named.result (c.in_default-next.ensures (labels_of c.args.choice.path))
    (c.named_outcome-named.ensures ∙ ap named_ending c.into_named.ensures)

pub returns-clause-moves : goal.returns-clause-moves
returns-clause-moves c = inr (record {
  tree = record { tree = c.in-Some.tree; path = c.in-Ok.path; from = c.in-Some.from };
  left = c.args.choice.left;
  frame_left = FirstOf (record {
    trees = c.next.new.self;
    path = c.args.choice.path;
    named = c.args.choice.named;
    visit = c.args.choice.visit;
    left = c.args.choice.left;
  });
  is = refl;
  pushed = c.in_ok-push.ensures.items;
  of_frame = (
    ap ending_of c.in-Neg.is,
    c.in-Some.ensures (labels_of c.args.choice.path)
        ∙ ap (λ (ls : Labels). append_rest (value_of c.in-Some.tree.now) (drop c.in-Some.from ls) ∷
        trees_left c.next.new.self (labels_of c.args.choice.path)) (sym c.in-Ok.ensures),
  );
})

pub returns-clause-step : goal.returns-clause-step
returns-clause-step c =
    λ rules names. chosen rules names _ c.args.choice _ _ c.requires.few
    (record {
      trees = c.next.new.self;
      path = c.args.choice.path;
      named = c.args.choice.named;
      visit = c.args.choice.visit;
      left = c.args.choice.left;
    })
    (record { tree = c.in-Some.tree; path = c.in-Ok.path; from = c.in-Some.from }) c.args.told
    c.in-Neg.is
    (c.in-Some.ensures (labels_of c.args.choice.path)
    ∙ ap (λ (ls : Labels). append_rest (value_of c.in-Some.tree.now) (drop c.in-Some.from ls) ∷
    trees_left c.next.new.self (labels_of c.args.choice.path)) (sym c.in-Ok.ensures))
    refl refl refl c.in_ok-push.ensures.items refl refl
