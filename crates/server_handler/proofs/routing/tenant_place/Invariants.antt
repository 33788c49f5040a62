use Rattle.std.proofs.Common.{◌≡◌, ◌≤◌, ◌+◌, length, map, string_bytes}
use Rattle.server_state.specs.Queries.{place_from, tenant_place}
use Rattle.server_handler.proofs.routing.tenant_place.Given as goal

abbrev pub invariant-names : goal.invariant-names
invariant-names l = record {
  same : place_from l.place (map string_bytes l.rest) l.name ≡ tenant_place (map string_bytes l.fn.names) l.fn.name;
  count : l.place + length l.rest ≡ length l.fn.names + 1;
  some : 1 ≤ l.place;
}

abbrev pub decreases-names : goal.decreases-names
decreases-names l = length l.rest
