-- One line after another.
use Rattle.std.proofs.Common.{◌≡◌, rules}
use Rattle.std.specs.Option.{option_map}
use Rattle.page.specs.declared.Worn.{Worn}
use Rattle.page.proofs.Paging.{puts_then, worn_each}
use Rattle.page.proofs.Out.worn.Goals as goal

pub returns : goal.returns
returns c =
    let all = puts_then c.line.ensures.puts
    (puts_then c.line-2.ensures.puts (puts_then c.line-3.ensures.puts c.line-4.ensures.puts)) in
    let least : c.map.result ≡ option_map (λ (w : Worn). w.least) c.args.wear = search rules in
    let most : c.map-2.result ≡ option_map (λ (w : Worn). w.most) c.args.wear = search rules in
    let mean : c.map-3.result ≡ option_map (λ (w : Worn). w.mean) c.args.wear = search rules in
    let rest : c.map-4.result ≡ option_map (λ (w : Worn). w.rest) c.args.wear = search rules in
    rw worn_each (rw (least, most, mean, rest) at all)
