-- THE MEANING of what the contracts cite
pub mod MaxFlow
