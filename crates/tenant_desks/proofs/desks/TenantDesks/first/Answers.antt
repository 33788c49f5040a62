use Rattle.std.proofs.Common.{◌≡◌, ◌+◌, ◌++◌, ◌∷◌, [], ℕ, List, Option, length, map, string_bytes, take, ap, sym, subst, ◌∙◌, arith, rules}
use Rattle.std.proofs.lemmas.List.{take_more, map-append, length-map}
use Rattle.std.proofs.Common.{Global, String, length-take-le}
use Rattle.tenant_desks.specs.Tenancies.{AreFirstDesks, fresh_desk}
use Rattle.tenant_desks.proofs.FirstDesks.{said_of, one_first_more, names_more, as_many_first}
use Rattle.tenant_desks.proofs.desks.TenantDesks.first.Goals as goal

pub loop-tenant-preserved : goal.loop-tenant-preserved
loop-tenant-preserved c =
    let tenants = c.args.tenants.now in
    let i = c.loop-tenant.tenant-index in
    let t = c.tenant-item.result in
    let at = c.loop-tenant.invariant in
    let said : List ℕ × Option ℕ = (string_bytes t.0, t.1) in
    let more : take (i + 1) tenants ≡ take i tenants ++ t ∷ [] = take_more tenants i t (omega arith) ∙ ap (λ x. take i tenants ++ x ∷ []) (sym c.tenant-item.is) in
    let all : said_of (take (i + 1) tenants) ≡ said_of (take i tenants) ++ said ∷ [] =
    ap said_of more ∙ map-append (λ (x : String Global × Option ℕ). (string_bytes x.0, x.1)) (take i tenants) (t ∷ []) in
    let names : map string_bytes c.push-in-loop-tenant-2.new.self.items ≡ map string_bytes c.loop-tenant.names.items ++ string_bytes t.0 ∷ [] = search (rules, map-append string_bytes c.loop-tenant.names.items (c.in_ok-from_str.field-0 ∷ [])) in
    let desks : c.push-in-loop-tenant.new.self.items ≡ fresh_desk ∷ (at.1.0 ++ c.in_ok-first_desk.field-0 ∷ []) = c.in_ok-push-2.ensures.items ∙ ap (λ ds. ds ++ c.in_ok-first_desk.field-0 ∷ []) at.1.2 in (
      names ∙ names_more (map string_bytes c.loop-tenant.names.items) (said_of (take i tenants)) said at.0 ∙ sym (ap (λ (x : List (List ℕ × Option ℕ)). map (λ (y : List ℕ × Option ℕ). y.0) x) all),
      (
        at.1.0 ++ c.in_ok-first_desk.field-0 ∷ [],
        subst (λ x. AreFirstDesks x (at.1.0 ++ c.in_ok-first_desk.field-0 ∷ [])) (sym all) (one_first_more (said_of (take i tenants)) at.1.0 said c.in_ok-first_desk.field-0 at.1.1 (search rules)),
        desks,
      ),
    )

pub invariant_of-result : goal.invariant_of-result
invariant_of-result c =
    let at = c.loop-tenant.invariant in
    let most = length-take-le c.loop-tenant.tenant-index c.args.tenants.now (search rules) in
    let names = length-map c.loop-tenant.names.items string_bytes in
    let named = ap length at.0 in
    let said = length-map (said_of (take c.loop-tenant.tenant-index c.args.tenants.now)) (λ (x : List ℕ × Option ℕ). x.0) in
    let texts : length (said_of (take c.loop-tenant.tenant-index c.args.tenants.now)) ≡ length (take c.loop-tenant.tenant-index c.args.tenants.now) =
    length-map {B = List ℕ × Option ℕ} (take c.loop-tenant.tenant-index c.args.tenants.now) (λ (x : String Global × Option ℕ). (string_bytes x.0, x.1)) in
    let desks = as_many_first (said_of (take c.loop-tenant.tenant-index c.args.tenants.now)) at.1.0 at.1.1 in
    let each = ap length at.1.2 in
    let few = c.requires in
    (omega (arith, names, named, said, texts, desks, each), omega (arith, names, named, said, texts, few, most))
