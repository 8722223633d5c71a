use Rattle.std.proofs.Common.{Some, inl, inr, ◌∷◌, refl, sym, ap, ◌∙◌}
use Rattle.std.specs.Prelude.{not}
use Rattle.name_tree.specs.Path.{Labels}
use Rattle.bind_core.specs.Rewritten.{labels_of, tree_of}
use Rattle.bind_core.specs.Stack.{trees_left}
use Rattle.bind_core.specs.declared.frame.Frame.TheVariants.{FirstOf}
use Rattle.bind_core.proofs.Turns.{bare, first, last, is_none, none_kept, named_on}
use Rattle.bind_core.proofs.delegate.first_tree.Goals as goal

pub returns-in_default-clause-step : goal.returns-in_default-clause-step
returns-in_default-clause-step c =
    λ rules names. bare rules names _ (trees_left c.args.trees (labels_of c.args.path)) c.args.named
    c.args.visit c.args.left _ _ _
    (c.in_default.ensures (labels_of c.args.path)) c.requires.few c.named_outcome-named.ensures refl
    refl
    c.end.ensures.most c.end.ensures.items

pub returns-clause-step : goal.returns-clause-step
returns-clause-step c =
    λ rules names. first rules names _ (trees_left c.args.trees (labels_of c.args.path))
    c.args.named c.args.visit c.args.left _ _
    (record {
      trees = c.next.new.self;
      path = c.in-Ok.kept;
      named = c.args.named;
      visit = Some c.args.visit;
      left = c.args.left;
    })
    (record { tree = c.in-Some.tree; path = c.args.path; from = c.in-Some.from })
    (c.in-Some.ensures (labels_of c.args.path)
    ∙ ap (λ (ls : Labels). tree_of (record {
      tree = c.in-Some.tree;
      path = c.args.path;
      from = c.in-Some.from;
    }) ∷ trees_left
    c.next.new.self ls) (sym c.in-Ok.ensures))
    c.requires.few refl refl refl c.in_ok-push.ensures.items refl refl

pub returns-then-not-are_kept-clause-step : goal.returns-then-not-are_kept-clause-step
returns-then-not-are_kept-clause-step c =
    λ rules names. last rules names _ (trees_left c.args.trees (labels_of c.args.path)) c.args.named
    c.args.visit c.args.left c.args.work.now
    (record { tree = c.in-Some.tree; path = c.args.path; from = c.in-Some.from })
    (c.in-Some.ensures (labels_of c.args.path)
    ∙ ap (λ ts. tree_of (record {
      tree = c.in-Some.tree;
      path = c.args.path;
      from = c.in-Some.from;
    }) ∷ ts) (c.if-is_empty.ensures (labels_of c.args.path)))
    (is_none c.args.named (c.is_none.ensures ∙ ap not c.if-is_none.true))
    (none_kept c.args.work.now.visits.most c.are_kept.result c.are_kept.ensures
    c.if-not-are_kept.true) c.requires.few c.requires.begun

pub returns-in_default-clause-moves : goal.returns-in_default-clause-moves
returns-in_default-clause-moves c =
    named_on (trees_left c.args.trees (labels_of c.args.path)) c.args.work.now.stack.items
    c.args.named c.named_outcome-named.result c.named_outcome-named.ensures

pub returns-clause-moves : goal.returns-clause-moves
returns-clause-moves c = inr (inl (record {
  tree = record { tree = c.in-Some.tree; path = c.args.path; from = c.in-Some.from };
  left = c.args.left;
  frame_left = FirstOf (record {
    trees = c.next.new.self;
    path = c.in-Ok.kept;
    named = c.args.named;
    visit = Some c.args.visit;
    left = c.args.left;
  });
  is = refl;
  pushed = c.in_ok-push.ensures.items;
  of_frame =
      c.in-Some.ensures (labels_of c.args.path)
      ∙ ap (λ (ls : Labels). tree_of (record {
        tree = c.in-Some.tree;
        path = c.args.path;
        from = c.in-Some.from;
      }) ∷ trees_left
      c.next.new.self ls) (sym c.in-Ok.ensures);
}))

pub returns-then-not-are_kept-clause-moves : goal.returns-then-not-are_kept-clause-moves
returns-then-not-are_kept-clause-moves c = inr (inr (record {
  tree = record { tree = c.in-Some.tree; path = c.args.path; from = c.in-Some.from };
  left = c.args.left;
  is = refl;
  same = refl;
  of_trees =
      c.in-Some.ensures (labels_of c.args.path)
      ∙ ap (λ ts. tree_of (record {
        tree = c.in-Some.tree;
        path = c.args.path;
        from = c.in-Some.from;
      }) ∷ ts) (c.if-is_empty.ensures (labels_of c.args.path));
}))
