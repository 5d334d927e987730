pub mod EntityLemmas
