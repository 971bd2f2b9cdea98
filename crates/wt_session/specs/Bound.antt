-- What `bound C x y` answers.
use Rattle.std.specs.Prelude.{ℕ, ℤ, List, ◌++◌, codes, Result, Ok, Err}
use Rattle.std.specs.Fmt.{decimal}
use Rattle.wt_chain.specs.declared.raw.RawChain.{RawChain}
use Rattle.wt_scale.specs.Vectors.{size_result}
use Rattle.wt_scale.specs.declared.size.SizeFault.{SizeFault}
use Rattle.wt_scale.specs.declared.size.SizeFault.TheVariants.{OpenChain, ZeroVector, TooLarge}
use Rattle.wt_session.specs.Names.{Names}
use Rattle.wt_session.specs.Replies.{Reply, says, refused, limit, open_chain, chain_named}

-- the size, or why there is none
abbrev pub size_reply : Result ℕ SizeFault → Reply
size_reply (Ok size) = says (decimal size ++ codes "\n")
size_reply (Err OpenChain) = open_chain
size_reply (Err ZeroVector) = refused (codes "refused zero vector\n")
size_reply (Err TooLarge) = limit (codes "limit size\n")

-- the chain, or why there is none
abbrev pub bound_of : ℤ → ℤ → Result RawChain Reply → Reply
bound_of dx dy (Err reply) = reply
bound_of dx dy (Ok c) = size_reply (size_result c dx dy)

-- The reply of `bound`: the size from which on the vector is no period. Refused for a name, then for an open chain, then for the zero vector, then for a size past the limit.
abbrev pub bound_reply : Names → List ℕ → ℤ → ℤ → Reply
bound_reply names c dx dy = bound_of dx dy (chain_named names c)
