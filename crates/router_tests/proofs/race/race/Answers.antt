use mathlib.Core.List.{[], ◌∷◌}
use mir.Syntax.{Sym}
use denote.Exit.{no}
use denote.RattleType.{RattleType}
use denote.Param.Send.{IsSync, arg_send, arg_sync, param_send, param_sync, shr_sync, sendable}
use denote.Param.SendFields.{as_row_sync, declared_sync}
use denote.Struct.Field.{row_field}
use denote.Struct.Tuple.{TupleAt, type_at}
use Rattle.std.proofs.Crossing.{crosses}
use Rattle.std.specs.contracts.alloc.Global as Heap
use Rattle.std.specs.contracts.sync.atomic.AtomicU32 as Word
use Rattle.router.proofs.Crossing.{pass_send, router_sync}
use Rattle.router_tests.proofs.race.race.Goals as goal

heap_sync : IsSync Heap.the_row
heap_sync = search (sendable, crosses) depth 20

word_sync : IsSync Word.the_row
word_sync = search (sendable, crosses) depth 20

-- a closure may be shared that captures four things which may
four_sync : (ν : Sym) (A B C D : RattleType) → IsSync A → IsSync B → IsSync C → IsSync D
    → IsSync (TupleAt ν (A ∷ B ∷ C ∷ D ∷ []))
four_sync ν A B C D a b c d =
    declared_sync (type_at ν (A ∷ B ∷ C ∷ D ∷ [])) (
      as_row_sync (row_field A) a,
      (
        as_row_sync (row_field B) b,
        (as_row_sync (row_field C) c, (as_row_sync (row_field D) d, tt)),
      ),
    )

pub for_each_mut-requires-send-T : goal.for_each_mut-requires-send-T
for_each_mut-requires-send-T g c κs within =
    param_send 1 _ (arg_send _ no _ (pass_send _ g.J.Naming g.J.Ledger c.type_bounds.send-J))

pub for_each_mut-requires-sync-F : goal.for_each_mut-requires-sync-F
for_each_mut-requires-sync-F g c κs within =
    param_sync 2 _ (arg_sync _ no _ (four_sync _ _ _ _ _
    (shr_sync _ _ _ c.type_bounds.sync-R)
    (shr_sync _ _ _ heap_sync)
    (shr_sync _ _ _ (router_sync _ g.J.Naming g.J.Ledger c.type_bounds.send-J))
    (shr_sync _ _ _ word_sync)))
