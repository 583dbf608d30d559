use Rattle.std.proofs.Common.{◌≡◌, ◌∷◌, drop}
use Rattle.collab.specs.Clients.{CanReceive, all_taken, taking_refusal}
use Rattle.collab.proofs.client.Client.after_some.Given as goal

abbrev pub invariant-loop-update : goal.invariant-loop-update
invariant-loop-update l = record {
  can : CanReceive l.client (drop l.update-index l.rest);
  goes : all_taken l.client (drop l.update-index l.rest) ≡ all_taken l.self (l.first ∷ l.rest);
  long : taking_refusal l.client (drop l.update-index l.rest) ≡ taking_refusal l.self (l.first ∷ l.rest);
}
