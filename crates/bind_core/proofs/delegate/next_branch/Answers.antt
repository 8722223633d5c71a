use Rattle.std.proofs.Common.{inr, drop, refl, ap, ◌∙◌}
use Rattle.std.specs.Slice.Iter.{iter_rest}
use Rattle.name_tree.specs.Tree.{value_of, listed}
use Rattle.bind_core.specs.declared.gathered.Gathered.{Gathered}
use Rattle.bind_core.specs.Kept.{kept_of, kept_ending}
use Rattle.bind_core.specs.Outcome.{ending_of}
use Rattle.bind_core.specs.Rewritten.{labels_of}
use Rattle.bind_core.proofs.Trees.{no_branch_left, next_branch_is}
use Rattle.bind_core.specs.declared.frame.Frame.TheVariants.{Union}
use Rattle.bind_core.proofs.Turns.{gathered, branched, gathered_on}
use Rattle.bind_core.proofs.delegate.next_branch.Goals as goal

pub returns-in_default-clause-step : goal.returns-in_default-clause-step
returns-in_default-clause-step c =
    λ rules names. gathered rules names _ c.args.union (kept_of c.add.new.self) c.args.told _
    c.requires.few c.requires.goes_on c.in_ok-add.ensures _
    (no_branch_left (listed (iter_rest c.args.union.branches))
    (drop c.args.union.from (labels_of c.args.union.path)) c.in_default.ensures)
    (c.into_outcome.ensures ∙ ap (λ (g : Gathered). kept_ending (kept_of g))
    c.into_gathered.ensures)

pub returns-in_default-clause-moves : goal.returns-in_default-clause-moves
returns-in_default-clause-moves c =
    gathered_on c.args.work.now.stack.items c.args.union (kept_of c.add.new.self)
    (ending_of c.args.told)
    c.into_outcome.result
    (no_branch_left (listed (iter_rest c.args.union.branches))
    (drop c.args.union.from (labels_of c.args.union.path)) c.in_default.ensures)
    (c.into_outcome.ensures ∙ ap (λ (g : Gathered). kept_ending (kept_of g))
    c.into_gathered.ensures)

pub returns-clause-moves : goal.returns-clause-moves
returns-clause-moves c = inr (record {
  tree = record { tree = c.in-Some.tree; path = c.in-Ok.path; from = c.args.union.from };
  left = c.args.union.left;
  frame_left =
      Union (record {
        branches = c.next_weighted.new.branches;
        path = c.args.union.path;
        from = c.args.union.from;
        weight = c.in-Some.weight;
        gathered = c.add.new.self;
        left = c.args.union.left;
      });
  is = refl;
  pushed = c.in_ok-push.ensures.items;
  of_frame = (
    c.in-Some.weight,
    next_branch_is (listed (iter_rest c.args.union.branches))
        (listed (iter_rest c.next_weighted.new.branches)) c.in-Some.weight
        (value_of c.in-Some.tree.now)
        (drop c.args.union.from (labels_of c.args.union.path))
        (drop c.args.union.from (labels_of c.in-Ok.path))
        (ap (drop c.args.union.from) c.in-Ok.ensures) c.in-Some.ensures.0,
  );
})

pub returns-clause-step : goal.returns-clause-step
returns-clause-step c =
    λ rules names. branched rules names _ c.args.union (kept_of c.add.new.self) c.args.told _
    c.requires.few c.requires.goes_on c.in_ok-add.ensures _
    (record {
      branches = c.next_weighted.new.branches;
      path = c.args.union.path;
      from = c.args.union.from;
      weight = c.in-Some.weight;
      gathered = c.add.new.self;
      left = c.args.union.left;
    })
    c.in-Some.weight (record {
      tree = c.in-Some.tree;
      path = c.in-Ok.path;
      from = c.args.union.from;
    })
    (next_branch_is (listed (iter_rest c.args.union.branches))
    (listed (iter_rest c.next_weighted.new.branches)) c.in-Some.weight
    (value_of c.in-Some.tree.now) (drop c.args.union.from (labels_of c.args.union.path))
    (drop c.args.union.from (labels_of c.in-Ok.path))
    (ap (drop c.args.union.from) c.in-Ok.ensures) c.in-Some.ensures.0)
    c.in-Some.ensures.1 refl refl refl c.in_ok-push.ensures.items refl refl
