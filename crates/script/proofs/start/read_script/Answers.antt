use Rattle.std.proofs.Common.{◌≡◌, ℕ, List, [], ◌++◌, take, IfSome, Some, None, Option, ap, arith}
use Rattle.std.specs.Option.{option_map}
use Rattle.script.proofs.start.read_script.Goals as goal

-- what was read of a source that is known
read_all : (known read : Option (List ℕ)) (limit : ℕ) (old new : List ℕ) → IfSome (option_map (take limit) read) (λ xs. new ≡ old ++ xs) → limit ≡ 65537 → read ≡ known → old ≡ [] → IfSome known (λ bytes. new ≡ take 65537 bytes)
read_all None read limit old new all most same none = tt
read_all (Some bytes) read limit old new all most same none =
    let it = rw (same, most, none) at all in it

pub returns : goal.returns
returns g c =
    read_all (g.R.Read.remaining c.args.source) (g.R.Read.remaining c.take.result.inner) c.take.result.limit c.new-script.result.items c.read_to_end.new.buf.items c.in_ok-read_to_end.ensures.bytes (omega (arith, c.take.ensures.limit)) (ap g.R.Read.remaining c.take.ensures.inner) c.new-script.ensures.items
