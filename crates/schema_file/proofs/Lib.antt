mod Lengths
mod Told
mod Ended
