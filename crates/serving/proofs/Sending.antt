-- A job may go to another thread.
use denote.RattleType.{RattleType}
use denote.Builtin.{One}
use denote.Hole.{as_row}
use denote.Ref.{NamedLft}
use denote.Struct.Field.{row_field, shr_ref_field}
use denote.Param.Send.{IsSend, IsSync, sendable, shr_send}
use denote.Param.SendFields.{as_row_send, declared_send, variants_send}
use Rattle.std.proofs.Crossing.{crosses}
use Rattle.std.specs.declared.sync.ledger.Ledger as ledger
use Rattle.line_base.specs.declared.outside.Peer as peer
use Rattle.waiting.proofs.Crossing.{hand_send, lot_sync}
use Rattle.waiting.specs.contracts.hand.Hand as Hand
use Rattle.waiting.specs.contracts.lot.Lot as Lot
use Rattle.client_stays.specs.contracts.client.IdleClient as IdleClient
use Rattle.client_stays.specs.declared.handling.Handling as handling
use Rattle.api_sessions.proofs.Crossing.{idle_caller_send, worker_send}
use Rattle.api_sessions.specs.contracts.idle.IdleCaller as IdleCaller
use Rattle.api_sessions.specs.contracts.which.Which as Which
use Rattle.serving.proofs.policy.Policy.TheSendSync as policy
use Rattle.serving.specs.contracts.policy.Policy as Policy
use Rattle.router.specs.contracts.router.Router as Router
use Rattle.router.specs.declared.naming.Naming as naming
use Rattle.serving.specs.contracts.interface.ApiServer as ApiServer
use Rattle.serving.specs.contracts.job.ApiJob as ApiJob
use Rattle.serving.specs.contracts.job.ProxyJob as ProxyJob
use Rattle.serving.specs.contracts.job.ServingJob as ServingJob
use Rattle.serving.specs.contracts.proxy.ProxyServer as ProxyServer
use Rattle.client_stays.proofs.Crossing.{idle_client_send}
use Rattle.proxy_session.proofs.Crossing.{server_send}
use Rattle.router.proofs.Crossing.{router_sync}

own_send : (T : RattleType) → IsSend T → IsSend (as_row (row_field T))
own_send T s = as_row_send (row_field T) s

shared_send : (a : NamedLft) (R : RattleType) (one : One R.mir) → IsSync R
    → IsSend (as_row (shr_ref_field a R one))
shared_send a R one s = as_row_send (shr_ref_field a R one) (shr_send a.mir a.lft R s)

which_send : IsSend Which.the_row
which_send = variants_send Which.enum (tt, ((search sendable, tt), ((search sendable, tt), tt)))

module _ (a b : NamedLft) (P J L D C K S X A B E F : RattleType) (p : peer.Ghosts P.Denot)
    (h : handling.Ghosts J.Denot) (n : naming.Ghosts J.Denot) (l : ledger.Ghosts J.Denot)
    (la : ledger.Ghosts A.Denot) (lb : ledger.Ghosts B.Denot) (le : ledger.Ghosts E.Denot)
    (lf : ledger.Ghosts F.Denot) where
  proxy_server_send : IsSend J → IsSend D → IsSend C → IsSend K
      → IsSend (ProxyServer.the_row a J D C K h n l)
  proxy_server_send j d c k = declared_send (ProxyServer.the_type a J D C K h n l) (
    search (crosses, sendable) depth 40,
    (
      shared_send a (Router.the_row J n l) tt (router_sync J n l j),
      (
        shared_send a Policy.the_row tt policy.the_sync,
        (server_send J D C n l j d c, (search sendable, (own_send K k, tt))),
      ),
    ),
  )

  api_server_send : IsSend J → IsSend S → IsSend X → IsSend (ApiServer.the_row b J S X n l)
  api_server_send j s x = declared_send (ApiServer.the_type b J S X n l) (
    search (crosses, sendable) depth 40,
    (
      shared_send b (Router.the_row J n l) tt (router_sync J n l j),
      (which_send, (worker_send J S X n l j s x, (search sendable, tt))),
    ),
  )

  proxy_job_send : IsSend P → IsSend J → IsSend L → IsSend D → IsSend C → IsSend K → IsSend S
      → IsSend (ProxyJob.the_row a P J L D C K S A B h n p l la lb)
  proxy_job_send q j t d c k s =
      declared_send (ProxyJob.the_type a P J L D C K S A B h n p l la lb) (
        search sendable,
        (
          own_send L t,
          (
            proxy_server_send j d c k,
            (
              own_send S s,
              (
                shared_send a (Lot.the_row (IdleClient.the_row P J n l p h) A B la lb) tt
                    (lot_sync (IdleClient.the_row P J n l p h) A B la lb
                    (idle_client_send P J n l p h q j)),
                (as_row_send (Hand.the_field A B la lb) (hand_send A B la lb), tt),
              ),
            ),
          ),
        ),
      )

  api_job_send : IsSend P → IsSend J → IsSend L → IsSend S → IsSend X
      → IsSend (ApiJob.the_row b P J L S X E F n p l le lf)
  api_job_send q j t s x = declared_send (ApiJob.the_type b P J L S X E F n p l le lf) (
    own_send L t,
    (
      api_server_send j s x,
      (
        shared_send b (Lot.the_row (IdleCaller.the_row P J n l p) E F le lf) tt
            (lot_sync (IdleCaller.the_row P J n l p) E F le lf (idle_caller_send P J n l p q j)),
        (as_row_send (Hand.the_field E F le lf) (hand_send E F le lf), tt),
      ),
    ),
  )

  pub job_send : IsSend P → IsSend J → IsSend L → IsSend D → IsSend C → IsSend K → IsSend S
      → IsSend X
      → IsSend (ServingJob.the_row (ProxyJob.the_row a P J L D C K S A B h n p l la lb)
      (ApiJob.the_row b P J L S X E F n p l le lf))
  job_send q j t d c k s x =
      variants_send (ServingJob.enum (ProxyJob.the_row a P J L D C K S A B h n p l la lb)
      (ApiJob.the_row b P J L S X E F n p l le lf)) (
        (own_send _ (proxy_job_send q j t d c k s), tt),
        ((own_send _ (api_job_send q j t s x), tt), tt),
      )
