-- `Load::cost`: the product, in whole microcents and parts of one. Assumes nothing.
use Rattle.std.specs.Int.{w64}
use Rattle.std.proofs.Common.{SFits, pos, rules, ap, ◌∙◌}
use Rattle.base_limits.proofs.Steps.Cost.{read, price-read, product_is, product-read, tenths-fit, whole-fits, cost-is}
use Rattle.base_measures.proofs.Load.cost.Goals as goal

pub overflow_mul-load : goal.overflow_mul-load
overflow_mul-load c =
    let l = c.args.self.0 in
    let p = c.args.price.0 in
    let f : SFits w64 l = search rules in
    let g : SFits w64 p = search rules in
    record { fits = tenths-fit (read l) (read p) (price-read l p f g c.requires) (product-read l p f g c.requires) }

pub carried-requires : goal.carried-requires
carried-requires c =
    let l = c.args.self.0 in
    let p = c.args.price.0 in
    let f : SFits w64 l = search rules in
    let g : SFits w64 p = search rules in
    whole-fits (read l) (read p) (price-read l p f g c.requires) (product-read l p f g c.requires)

pub returns-clause-parts_value : goal.returns-clause-parts_value
returns-clause-parts_value c =
    let l = c.args.self.0 in
    let p = c.args.price.0 in
    let f : SFits w64 l = search rules in
    let g : SFits w64 p = search rules in
    ap pos (c.carried.ensures.parts_value ∙ cost-is (read l) (read p) (price-read l p f g c.requires) (product-read l p f g c.requires))
    ∙ product_is l p f g c.requires
